-- The laws. Rooms: the room that listing the moves takes, where no mask has a label. Shared: a shared term's words are at most as many as those of the term
-- that it means.
-- Document 01, "Moves, in order"; "Operations": Run.
pub mod Rooms
pub mod Shared
