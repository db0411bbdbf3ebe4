-- The laws. Giving: what was admitted and read of a rule set and a term, put together. Handing: what `.ok_or(..)?` returns.
-- Document 01, "Operations"; refusals 10 and 11.
pub mod Giving
pub mod Handing
