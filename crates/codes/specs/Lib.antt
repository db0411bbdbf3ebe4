-- Which codes may be where (Sorts), what follows a code (Table) in an edition (Shapes), expressions and terms one after the other (Rows), and their laws
-- (Laws).
-- Document 01, "Values and conditions", "Blocks and the rule stream"; document 02, K2 and K6.
pub mod Sorts
pub mod Table
pub mod Shapes
pub mod Rows
pub mod Laws
