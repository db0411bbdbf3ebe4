-- The tables that process terms are judged by: their places (Layout), what they declare (Tables), and its laws (Laws).
-- Document 01, "Blocks and the rule stream", item 5: masks and arguments, and what they are judged by.
pub mod Layout
pub mod Tables
pub mod Laws
