-- What writing words into a lent buffer leaves (Wrote), and its laws (Laws).
-- Document 01, "Operations": what is written, and what is kept.
pub mod Wrote
pub mod Laws
