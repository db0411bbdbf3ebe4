-- The demands in plain terms: what any six operations must do to be the cabinet engine (document 01, "Operations" and "Four questions about contracts").
--
-- StreamWords: where the words lie in the bytes. Admitting: what a file is admitted as and refused by, as conditions on its bytes. Demanded: the six
-- operations, outcome by outcome. Ours: eb3's meet the demands, and no others do. Stepping: a host that starts and then moves comes to what a run leaves.
-- CellValues: each cell by its function and element. proofs/Laws says that eb3's operations meet all this, and that none others do.
pub mod StreamWords
pub mod Admitting
pub mod Demanded
pub mod Ours
pub mod Stepping
pub mod CellValues
