-- What a check of process terms answers (Weighed), the stars at a term's beginning (Starred), and the laws of the check (Laws).
-- Document 01, "Blocks and the rule stream", item 5; "Unfolding, size and breadth".
pub mod Weighed
pub mod Starred
pub mod Laws
