-- What an event given to Present says.
-- Document 01, "Operations"; refusal 11.
pub mod Events
