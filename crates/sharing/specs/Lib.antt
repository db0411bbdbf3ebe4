-- Terms that share parts with the start's unfolding: what is held, what finding, building, splicing and spelling out answer.
-- Document 01, "Moves, in order"; "Operations": Run.
pub mod Shared
pub mod Walking
pub mod Seeking
pub mod Finding
pub mod Beginning
pub mod Writing
pub mod Splicing
pub mod Expanding
pub mod Changing
pub mod Stepping
pub mod Masks
pub mod Laws
