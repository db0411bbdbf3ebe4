-- The laws. Declaring, Regions: what is entered into the tables is declared by them, and the rest stays. Functions, Processes, Sections, Rows: what the
-- reading of each part says. Scopes: the scopes of a function's expressions.
-- Document 01, "Blocks and the rule stream", items 2 to 5; refusals 4 and 5.
pub mod Declaring
pub mod Functions
pub mod Regions
pub mod Scopes
pub mod Sections
pub mod Processes
pub mod Rows
