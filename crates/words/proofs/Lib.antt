-- What the proofs of several functions use (document 01, "Operations": 4, 5 and 6 by the first offending word).
mod Cases
