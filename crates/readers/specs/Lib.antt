-- Counts by card reader (document 02, K1): a table of records and what is counted for it (Table), and how the table is stored in a host's bytes (Placing).
-- Their laws are in proofs/Laws.
pub mod Table
pub mod Placing
