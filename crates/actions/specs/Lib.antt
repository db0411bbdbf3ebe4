-- Actions as numbers (Codes), sets of labels as numbers (Sets), and the laws of both (Laws).
-- Document 01, "Moves, in order": equal actions, label and arguments.
pub mod Codes
pub mod Sets
pub mod Laws
