-- One rule set on bytes that uses every code of document 01, executed: its words and its file byte by byte, and what Admit, Start, Run, Count, Move and
-- Present answer; every figure worked out by hand in comments.
pub mod EveryCode
