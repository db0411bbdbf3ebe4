-- A file whose blocks are right.
-- Document 01, "Blocks and the rule stream"; refusals 1 to 3.
use Rattle.std.specs.Prelude.{◌≡◌, List, ℕ}
use Rattle.eb3.specs.Answers.{answered}
use Rattle.eb3.specs.Blocks.{open_blocks}
use Rattle.eb3.proofs.Laws.Admission.{opened_1}

-- The file's blocks were opened.
abbrev pub Opens : List ℕ → Type 0
Opens file = open_blocks file ≡ answered (opened_1 file)
