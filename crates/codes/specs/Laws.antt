-- The laws. Sorts: which codes may be where, as ranges. Due: what the check of a code answers. Table: the table of codes as bits of numbers and as rows.
-- Shapes: the table at edition 1's shape. Pieces: what an expression or a term begins with. Skipping: the loops that skip expressions and terms.
-- Document 01, "Values and conditions", "Blocks and the rule stream"; document 02, K2 and K6.
pub mod Sorts
pub mod Due
pub mod Table
pub mod Shapes
pub mod Pieces
pub mod Skipping
