-- The theorem is in Demand3, and that it speaks of every script in Scripts. Under it: what lists of commands do to what has a
-- name (Sends), runs of them (Running), the port that goes by turns (Turning), the facts of each group (Reaching), each step's
-- commands (StepsSent), closed ports (Closed), and the entry (Playing). Idle is document 02's, P2: steps that can do nothing
-- change nothing. StepsChanging is its P6: as many commands change something as steps do by name. Matching is its P7: what is
-- kept of a state does what the state does.
pub mod Sends
pub mod Running
pub mod Turning
pub mod Reaching
pub mod StepsSent
pub mod Demand3
pub mod Scripts
pub mod Closed
pub mod Playing
pub mod Idle
pub mod StepsChanging
pub mod Matching
