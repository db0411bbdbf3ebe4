-- What the proofs of several functions use (document 01, "Blocks and the rule stream").
mod Cases
mod Rounds
