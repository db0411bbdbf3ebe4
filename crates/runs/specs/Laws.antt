-- The laws. Scratch: of lent bytes of which only words change.
-- Document 01, "Operations": an odd last byte is ignored and kept.
pub mod Scratch
