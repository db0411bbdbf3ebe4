-- The laws. Tables: what the tables declare, entry by entry, and the readers of masks and arguments. Editions: what the tables' edition has. Defined:
-- what an edition that is defined has. Variables: one variable more than those in scope.
-- Document 01, "Blocks and the rule stream", item 5: masks and arguments, and what they are judged by.
pub mod Editions
pub mod Defined
pub mod Tables
pub mod Variables
