-- A weight as a measure of the specification (Weighing), and its laws (Laws).
-- Document 01, "Unfolding, size and breadth"; refusals 7 and 8.
pub mod Weighing
pub mod Laws
