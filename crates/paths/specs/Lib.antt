-- A move's derivation written down as the decisions on the way to it, and (in proofs/) the proof that it leads there.
-- Document 01, "Moves, in order".
pub mod Paths
