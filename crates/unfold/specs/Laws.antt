-- The laws. Instantiation: of expressions whose variables become constants. Puts: of putting words into a buffer. Saying: of what the parts say.
-- Rooms: of the room that a buffer has.
-- Document 01, "Unfolding, size and breadth".
pub mod Instantiation
pub mod Puts
pub mod Saying
pub mod Rooms
