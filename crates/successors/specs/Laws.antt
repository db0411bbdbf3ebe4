-- The laws. Following: where a path leads, and what is left of it. Terms: a running term's operands.
-- Document 01, "Moves, in order"; "Operations": the successor is built within a part of the lent buffer.
pub mod Following
pub mod Terms
