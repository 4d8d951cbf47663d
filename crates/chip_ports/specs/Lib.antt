-- What has to be believed of the ports is one table, in Ports.
pub mod Ports
