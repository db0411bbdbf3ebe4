-- The cells of a store: how they are laid out (Layout), what filling them leaves (Filling, Turns: function by function; Frames: where most cells keep their
-- values), what is read from them (Reads, Agreement), how a store is made ready (Preparing, Readying), and the laws of all that (Laws).
-- Document 01, "Memory and the history machine".
pub mod Layout
pub mod Filling
pub mod Preparing
pub mod Agreement
pub mod Reads
pub mod Turns
pub mod Frames
pub mod Readying
pub mod Laws
