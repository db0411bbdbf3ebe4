-- What the proofs of several functions use (document 01, "Unfolding, size and breadth").
pub mod RowCases
pub mod ValueCases
pub mod RuleFacts
pub mod Shapes
pub mod TermCases
pub mod MainCases
