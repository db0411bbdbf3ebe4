-- The proofs (document 01, under the table of refusals): the readers follow the verdict, of expressions, of terms, of a whole stream; then what is refused;
-- then that the words before the offending one begin an accepted stream where any word may follow them; then the words of running terms.
pub mod FirstOffendingWord
pub mod FirstOffendingTerms
pub mod FirstOffendingRules
pub mod StreamRefusals
pub mod PassedWords
pub mod ViablePrefix
pub mod GivenWords
