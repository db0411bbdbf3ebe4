-- The laws that the proofs of the building share.
mod Ends
mod Writes
mod Made
mod Begun
mod Cases
mod Parallels
mod Stays
