-- What each operation answers, document 01's number or values for each case: Start (Starting), Run (Running), Count (Counting), Move and Present (Stepping);
-- what is known of the rule set and of a given term (Describing), what each does there (Enveloping), the memory at the start (Memories), and the laws of these (Laws).
-- Document 01, "Operations".
pub mod Describing
pub mod Enveloping
pub mod Memories
pub mod Starting
pub mod Counting
pub mod Stepping
pub mod Running
pub mod Laws
