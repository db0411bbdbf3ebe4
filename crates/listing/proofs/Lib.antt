-- What the proofs of several functions use (document 01, "Moves, in order").
mod Writing
mod Copying
mod Combined
mod Answers
mod Arms
mod Sides
mod Parallels
