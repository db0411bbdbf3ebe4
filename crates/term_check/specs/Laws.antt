-- The laws. Alike: under rule sets that are equal in what readers use, terms and events read the same. Answers: what an answer of the check says of the
-- reading. Reading: of the readers of running terms.
-- Document 01, "Unfolding, size and breadth"; refusal 10.
pub mod Alike
pub mod Answers
pub mod Reading
