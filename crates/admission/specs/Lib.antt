-- What the engine's answers are in the specification's words (Answering), what admitting a file leaves for later steps (Admitting), what is known of a rule
-- set that was admitted (Knowing), and the laws of these (Laws).
-- Document 01, "Operations": Admit; refusals 1 to 8.
pub mod Answering
pub mod Admitting
pub mod Knowing
pub mod Laws
