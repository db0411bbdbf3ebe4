-- What the proofs of several functions use (document 01, "Operations"; refusal 11).
mod Small
mod Leaves
mod Cases
