-- The laws. Answering: an answer's value and words left are computed from it. Values: words read as values and written again.
-- Document 01, "Values and conditions".
pub mod Answering
pub mod Values
