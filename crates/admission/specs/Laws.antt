-- The laws. Admission: what the engine's answer to Admit says of the rule set. Opening: what opening the blocks says of Admit. Knowing: where a file was
-- admitted with a directory, all that `Known` says holds.
-- Document 01, "Operations": Admit; refusals 1 to 8.
pub mod Admission
pub mod Opening
pub mod Knowing
