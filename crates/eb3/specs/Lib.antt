-- EB3 terms, attribute memory and moves: the specification of document 01, and of source 000's semantics Sem_T and Sem_M.
--
-- A file in this folder defines; a file of proofs/Laws proves about the definitions of its name; Generic has what knows nothing of EB3. To believe the
-- specification read this folder, in the order below, and no proof. What it all comes to are the records in Demands, Admitted, Examples and Executed;
-- proofs/Laws says that they hold. `must-fail` holds document 01's wrong readings and sham engines as edits that the proofs refuse.

-- Generic: tests, lists, positions, enumerations.
pub mod Generic
-- The refusals by their words and numbers; the limits; the editions.
pub mod Refusal
pub mod Limits
pub mod Editions
-- "Values and conditions": values, expressions in one environment, where each is allowed.
pub mod Values
pub mod Expressions
pub mod Scopes
-- "Unfolding, size and breadth" (running terms) and "Moves, in order"; the published rules as derivations.
pub mod Terms
pub mod Sizes
pub mod Moves
pub mod Derivations
pub mod Clauses
-- "Memory and the history machine": attribute functions over a trace; cells; Sem_T and Sem_M; both machines.
pub mod Attributes
pub mod Cells
pub mod TransitionSystems
pub mod Semantics
pub mod Meanings
pub mod Machines
-- "Blocks and the rule stream" and "Unfolding": rule sets as written, their unfolding, the call rule, measures without unfolding, and what a rule
-- set may say.
pub mod RuleSets
pub mod Unfolding
pub mod UnfoldingClauses
pub mod SourceTerms
pub mod Measures
pub mod WellFormedness
-- Words: how terms and rule sets are spelled and read, word by word, with the refusal of the first offending word.
pub mod Spelling
pub mod RuleSpelling
pub mod Codes
pub mod Reading
pub mod ExpressionReading
pub mod TermReading
pub mod RuleReading
-- Bytes: words in buffers, blocks and their sums, memories; from any bytes to a rule set or a refusal.
pub mod Bytes
pub mod Memory
pub mod Numbers
pub mod Answers
-- Run's list and table by card reader (document 02, K1).
pub mod Readers
-- Blocks, files, and from any bytes to a rule set or a refusal.
pub mod Blocks
pub mod Files
pub mod Admission
pub mod Judging
-- "Operations", what is demanded of them, what holds of every admitted rule set, and the examples.
pub mod Operations
pub mod Demands
pub mod Admitted
pub mod Examples
pub mod KeyCabinet
pub mod Executed
