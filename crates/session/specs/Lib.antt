-- What the printing program reads (document 01, "Examples": a rule set, then numbers), and what it holds between two moves.
pub mod Reading
pub mod Positions
