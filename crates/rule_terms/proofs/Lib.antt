-- What the proofs of several functions use (document 01, "Blocks and the rule stream").
mod Leaves
mod Parts
mod Binders
mod Codes
mod Stars
