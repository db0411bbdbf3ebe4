-- The laws (document 02, K1). Table: one step of each loop over records. Bytes: numbers read from bytes and written to them. Increase: so the whole table is
-- increased. Counting: what a run counts. Lists: the test of the readers.
pub mod Table
pub mod Bytes
pub mod Increase
pub mod Counting
pub mod Lists
