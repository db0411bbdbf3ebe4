-- What expressions are evaluated in (Stores), what an evaluation answers (Answering, Operands), and the laws of these (Laws).
-- Document 01, "Values and conditions".
pub mod Stores
pub mod Answering
pub mod Operands
pub mod Laws
