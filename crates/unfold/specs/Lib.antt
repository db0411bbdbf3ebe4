-- What the unfolding of a process term writes (Written, Unfolded), what its parts put into the buffer (Puts, Saying), variables that become constants
-- (Instantiation), the code that joins two terms (Joints), the room that a buffer has (Rooms), and the laws of these (Laws).
-- Document 01, "Unfolding, size and breadth".
pub mod Written
pub mod Unfolded
pub mod Puts
pub mod Instantiation
pub mod Saying
pub mod Joints
pub mod Rooms
pub mod Laws
