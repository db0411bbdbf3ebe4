-- The laws. Opening: what the answer of opening a file says of the file.
-- Document 01, "Blocks and the rule stream"; refusals 1 to 3.
pub mod Opening
