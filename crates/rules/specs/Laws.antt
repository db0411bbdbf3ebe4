-- The laws. Sections: what the check of the processes answers, case by case. Whole: from the check's answer to what Admit answers. Answers: what an
-- answer has in it.
-- Document 01, "Blocks and the rule stream", items 2 to 5; refusals 4 to 6.
pub mod Answers
pub mod Sections
pub mod Whole
