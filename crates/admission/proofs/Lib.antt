-- What the proofs of several functions use (document 01, "Operations": Admit).
mod Cases
