-- What the proofs of several functions use (document 01, "Moves, in order").
mod Lists
mod Searches
mod Places
mod Locating
mod Answers
mod Counts
mod Arms
mod Sides
mod Walking
mod Listed
mod Idle
mod Parallels
