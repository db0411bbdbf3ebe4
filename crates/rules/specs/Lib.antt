-- What the check of a whole rule set answers (Sections), what it fills (Filling), and the laws of both (Laws).
-- Document 01, "Blocks and the rule stream", items 2 to 5; refusals 4 to 6.
pub mod Sections
pub mod Filling
pub mod Laws
