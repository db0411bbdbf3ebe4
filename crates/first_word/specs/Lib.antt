-- "4, 5 and 6 by the first offending word of the stream, at one word 4 before 5 before 6" (document 01, under the table of refusals), said a second time
-- word by word (FirstOffendingWord), and that the readers of rule streams and Admit answer exactly so (StreamRefusals); likewise the words of running
-- terms and events (GivenWords). proofs/Laws says that it holds.
pub mod FirstOffendingWord
pub mod StreamRefusals
pub mod GivenWords
