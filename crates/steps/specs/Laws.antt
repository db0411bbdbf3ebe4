-- The laws. Judging: of a running term at the cells of a store. Counting: of the first move with an action. Ruled: what the tables say of a rule set.
-- Storing: what a rule set's form says of its cells in a store.
-- Document 01, "Moves, in order"; "Memory and the history machine".
pub mod Judging
pub mod Counting
pub mod Ruled
pub mod Storing
