-- What the building of a successor answers, in the whole (Building) and in its parts (Parts), the words that stay as they are (Unchanged), and the laws of
-- these (Laws).
-- Document 01, "Moves, in order"; "Operations": the successor is built within a part of the lent buffer.
pub mod Building
pub mod Parts
pub mod Unchanged
pub mod Laws
