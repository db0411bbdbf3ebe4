-- The laws, case by case: Start (Starting), Run (Running), Count (Counting), Move and Present (Stepping); the memory at the start (Memories); and what is
-- known of the rule set and of a given term (Describing). FromRules: the same cases from the rules and the term as they are given.
-- Document 01, "Operations".
pub mod Running
pub mod Starting
pub mod Stepping
pub mod Counting
pub mod Memories
pub mod Describing
pub mod FromRules
