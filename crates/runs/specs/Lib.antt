-- The memory machine run by a list of numbers (Running), its term held as words or as parts of the start's unfolding (Held, Sharing), the bytes that
-- successors are built in (Scratch), the run of the main process from the start (MainProcess, Starts), and their laws (Laws). Document 01, "Memory and the
-- history machine"; "Operations": Run.
pub mod Scratch
pub mod Running
pub mod Sharing
pub mod Held
pub mod MainProcess
pub mod Starts
pub mod Laws
