-- The laws. Codes, Shown: the numbers of a term's moves by the term's form, also outside a set of labels. Outside: hiding labels before or after combining.
-- Rooms: the room that listing takes. ByCode, CasesByCode: the term by the code at its beginning. Positions, Operands: where operands are, and which are
-- done. Fits: a term has as many words as its size. Rows: terms one after the other. Coded: the same, as the table of codes has them. Parts: of parts of
-- an array.
-- Document 01, "Moves, in order".
pub mod Codes
pub mod Rows
pub mod Coded
pub mod Fits
pub mod Operands
pub mod Outside
pub mod Shown
pub mod CasesByCode
pub mod Positions
pub mod Rooms
pub mod ByCode
pub mod Parts
