-- What the proofs of the exported functions use (document 01, "Operations"; host/eb3.h).
mod Cases
