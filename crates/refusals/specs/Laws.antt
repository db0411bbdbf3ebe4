-- The laws. Numbers: number and refusal are each other's inverse, and what is refused by a refusal's number.
-- Document 01, the table under "Operations"; document 02, K1.
pub mod Numbers
