-- What the proofs of several functions use (document 01, "Unfolding, size and breadth").
pub mod Steps
