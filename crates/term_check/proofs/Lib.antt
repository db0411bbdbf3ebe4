-- What the proofs of several functions use (document 01, "Unfolding, size and breadth"; refusal 10).
mod Values
mod Leaves
mod Nested
mod Parts
mod Codes
mod Limits
