-- The refusals and their numbers (Numbers), and their laws (Laws).
-- Document 01, the table under "Operations".
pub mod Numbers
pub mod Laws
