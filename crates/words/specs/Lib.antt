-- What a check of words answers (Checking, Readings), what is left of words (Ends), repeated words (Repeats), and their laws (Laws): those of
-- reading that every crate above uses.
-- Document 01, "Operations": 4, 5 and 6 by the first offending word of the stream.
pub mod Checking
pub mod Repeats
pub mod Ends
pub mod Readings
pub mod Laws
