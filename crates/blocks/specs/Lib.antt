-- A file whose blocks are right (Files), what opening a file answers (Opening), and the laws of opening (Laws).
-- Document 01, "Blocks and the rule stream"; refusals 1 to 3.
pub mod Files
pub mod Opening
pub mod Laws
