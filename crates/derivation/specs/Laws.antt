-- The laws. Answers: of the answers of a search, and of the room before a path. Outcomes: of their bounds, and of what is found of a term's moves. Fits: of
-- operands' sizes and of actions. Arrays: of lent arrays.
-- Document 01, "Moves, in order".
pub mod Answers
pub mod Outcomes
pub mod Fits
pub mod Arrays
