-- The laws. Codes: equal numbers are equal actions, and a number gives back its label and arguments. Actions: every action of a rule set of edition 1 is
-- small enough for that. Sets: sets of labels as numbers.
-- Document 01, "Moves, in order": equal actions, label and arguments.
pub mod Codes
pub mod Actions
pub mod Sets
