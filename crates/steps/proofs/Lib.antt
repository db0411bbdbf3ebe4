-- What the proofs of several functions use.
mod Tallying
mod Finding
mod TakeCases
mod Keeps
mod Stores
