-- The laws. Cells: where they are, and their order. Turns, Frames, Framing: filling a function's cells one by one, or by copies. Fronts: the first words
-- of expressions whose cells keep their values. Memory: cells of a memory in a store. Preparing, Readying, ReadyingFills: a store made ready to be filled.
-- Reads: what is read from a store is what the cells hold.
-- Document 01, "Memory and the history machine".
pub mod Cells
pub mod Frames
pub mod Framing
pub mod Fronts
pub mod Memory
pub mod Turns
pub mod ReadyingFills
pub mod Preparing
pub mod Reads
pub mod Readying
