-- The laws. Reading: of the readers of process terms. Weighed: what an answer of the check says of the reading.
-- Document 01, "Blocks and the rule stream", item 5; "Unfolding, size and breadth".
pub mod Reading
pub mod Weighed
