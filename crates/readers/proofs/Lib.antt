-- The laws of the counts and of the table (document 02, K1).
pub mod Laws
