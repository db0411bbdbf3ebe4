-- The laws. Rows: of counts and of readings one after the other. Words: of a word in bytes. Checking, Reading: what the answers of checks say of readings.
-- Refusing: the number of a refusal. Repeats: how often a word is repeated.
-- Document 01, "Operations": 4, 5 and 6 by the first offending word of the stream.
pub mod Rows
pub mod Words
pub mod Checking
pub mod Reading
pub mod Refusing
pub mod Repeats
