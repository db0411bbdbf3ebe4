-- What the listing of a term's moves answers (Listing, Arms, Combining), also outside a set of labels (Shown), and leaves of the array (Lending); where
-- operands are (Positions), terms one after the other (Rows), what a part of combining writes (Putting), the room that listing takes (Rooms), and the laws
-- of these (Laws).
-- Document 01, "Moves, in order".
pub mod Listing
pub mod Lending
pub mod Positions
pub mod Rows
pub mod Putting
pub mod Combining
pub mod Shown
pub mod Arms
pub mod Rooms
pub mod Laws
