-- The laws. Wrote: of writing words and lists of words, one after the other.
-- Document 01, "Operations": what is written, and what is kept.
pub mod Wrote
