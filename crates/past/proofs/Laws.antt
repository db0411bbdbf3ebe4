-- The proofs (request K10 of document 02). Futures: equal values are equal cells, and have one future. ByReader: lists of numbers with their readers, one
-- after the other. PastInCells: the runs on bytes have one future, too.
pub mod Futures
pub mod ByReader
pub mod PastInCells
