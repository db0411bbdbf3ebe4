-- The cases that the proofs of the functions cite.
mod Words
mod Cases
mod Fronts
