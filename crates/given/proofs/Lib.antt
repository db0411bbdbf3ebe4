-- What the proofs of several functions use (document 01, "Operations"; refusals 10 and 11).
mod GivingCases
mod AskCases
