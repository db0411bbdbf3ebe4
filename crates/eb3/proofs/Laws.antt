-- The proofs. Demands 1 to 3 are in DemandOne and Order, DemandTwo and DemandThree; what holds of every admitted rule set in Admitted; that every well-formed
-- rule set that fits has a file which is admitted as it, in Files.

-- What every edition has. Values, terms, moves; the listed moves are the derivations, in order (Derivations, Semantics).
pub mod Editions
pub mod Values
pub mod Terms
pub mod Masks
pub mod Moves
pub mod Clauses
pub mod Derivations
pub mod Semantics
-- Attribute values and cells; the machines agree.
pub mod Attributes
pub mod Meanings
pub mod Cells
pub mod TransitionSystems
pub mod Machines
-- Size, reach and breadth; measures and their saturation.
pub mod Sizes
pub mod Measures
pub mod Saturation
-- Rule sets, unfolding, the call rule; what holds along every run.
pub mod RuleSets
pub mod Elements
pub mod CellCounts
pub mod Unfolding
pub mod UnfoldingClauses
pub mod Instantiation
pub mod SourceTerms
pub mod SourceDerivations
pub mod SourceOrder
pub mod MainRunning
pub mod Running
-- Readers: sound, complete, and by which numbers they refuse.
pub mod Spelling
pub mod RuleSpelling
pub mod Codes
pub mod Reading
pub mod ReadingCombined
pub mod ExpressionReading
pub mod TermReading
pub mod RuleTermReading
pub mod ParameterCounts
pub mod RuleReading
pub mod RuleReadingComplete
pub mod Refusals
pub mod Signatures
-- Bytes and blocks.
pub mod Answers
pub mod Bytes
pub mod Memory
pub mod Numbers
pub mod Blocks
pub mod Admission
pub mod Judging
pub mod Files
-- Operations and demands.
pub mod Operations
pub mod Admitted
pub mod DemandThree
pub mod DemandTwo
pub mod Numbering
pub mod DemandOne
pub mod Order
pub mod Readers
pub mod Start
