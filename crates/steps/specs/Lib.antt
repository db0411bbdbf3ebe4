-- A step of the memory machine, from the words of a term and a store of cells: counting moves (Counting), taking one (Taking), the store of a rule set's
-- memory (Storing), keeping its old cells (Keeping), and the laws of these (Laws). Document 01, "Moves, in order"; "Memory and the history machine".
pub mod Counting
pub mod Taking
pub mod Storing
pub mod Keeping
pub mod Laws
