-- What is given to Count, Move and Present: a term (Giving), and an event or a number (Asking); and the laws of these (Laws). Document 01, "Operations";
-- refusals 10 and 11.
pub mod Giving
pub mod Asking
pub mod Laws
