-- The laws. Weighing: the parallel of two weights (`parallel_by`) is the specification's, whatever its mask.
-- Document 01, "Unfolding, size and breadth"; refusals 7 and 8.
pub mod Weighing
