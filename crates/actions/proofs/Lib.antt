-- What the proofs of several functions use (document 01, "Moves, in order").
mod Cases
