-- The proofs (document 01, "Blocks and the rule stream", "Memory and the history machine" and "Operations"; document 02, K1). Verdicts: admission is exact.
-- Demanded: `ours` meet the demands, and any that do are ours (`theirs`, `theirs_equal`; together `the_engine`), over Given (what is given and the room
-- there is), Numberings (the first derivation with an event), HistoryRuns (the history machine) and Readers (Run's list and table by card reader).
-- Stepping, over Accepting and Readers; CellValues.
pub mod StreamWords
pub mod Verdicts
pub mod Numberings
pub mod HistoryRuns
pub mod Readers
pub mod Given
pub mod Demanded
pub mod Accepting
pub mod Stepping
pub mod CellValues
