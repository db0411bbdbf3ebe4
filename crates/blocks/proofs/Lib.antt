-- What the proofs of several functions use (document 01, "Blocks and the rule stream"; refusals 1 to 3).
mod Sums
mod Right
mod Joining
mod Cases
mod Remainders
mod Chunks
