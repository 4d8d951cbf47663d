-- What has to be believed of a complaint: the words of each number (Words), and the line (Complaint).
pub mod Words
pub mod Complaint
