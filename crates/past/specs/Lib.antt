-- Request K10 (document 02): what two histories with equal terms and values have in common is their whole future.
--
-- PastInCells: the statement, of the machines and of the operations on bytes. In proofs/, Executed: histories of different lengths and events with the
-- same end, and two that end with equal terms and one value apart, after which the moves differ; and Laws: the proof.
pub mod PastInCells
