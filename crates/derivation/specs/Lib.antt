-- What the search for a move's path answers: of a whole term (Derived), of each form of a term (Arms), and of searching the numbers of both sides of a
-- parallel (Searching); that lent arrays stay the same (Lending, Arrays); and the laws of these (Laws).
-- Document 01, "Moves, in order".
pub mod Derived
pub mod Searching
pub mod Arms
pub mod Lending
pub mod Arrays
pub mod Laws
