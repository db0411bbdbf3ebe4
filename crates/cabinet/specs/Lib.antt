-- What the exported functions give to C.
-- Document 01, "Operations": a C host calls every operation with numbers and byte slices.
pub mod Exported
