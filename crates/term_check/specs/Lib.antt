-- What the check of a given term answers (Given; its parts Answers), what it leaves of the weigher that it is lent (Lending), and its laws (Laws).
-- Document 01, "Unfolding, size and breadth"; refusal 10.
pub mod Given
pub mod Answers
pub mod Lending
pub mod Laws
