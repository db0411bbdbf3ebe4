-- What Run answers and leaves, by the specification's operation, which is the history machine's run (document 01, "Operations"; "Memory and the history
-- machine"; document 02, K1).
use Rattle.std.specs.Prelude.{◌≡◌, List, ℕ, Ok, Err, Result}
use Rattle.eb3.specs.Answers.{Answer, refused, answered, Ran as Answer_ran, Tabled}
use Rattle.eb3.specs.Operations.{run, ScratchAfter}
use Rattle.runs.specs.declared.main_process.Totals.{Totals}
use Rattle.refusals.specs.declared.Refusal.{Refusal}
use Rattle.refusals.specs.Numbers.{refusal}

-- The last term's size and the three counts.
abbrev pub totals : Answer_ran → Totals
totals m = record { size = m.size; visible = m.visible; internal = m.internal; refused = m.refusals }

unfoldable pub ran_as : Answer Answer_ran → Result Totals Refusal
ran_as (refused k) = Err (refusal k)
ran_as (answered m) = Ok (totals m)

-- With the lent table and buffers afterwards. Of the spare ones only the first is written, and of it, where the run is done, only whole words.
pub record Ran (w : Tabled Answer_ran) (spare_term : List ℕ) (r : Result Totals Refusal) (table' term' memory' spare' : List ℕ) : Type 0 where
  pub answer : r ≡ ran_as w.written.answer
  pub table_after : table' ≡ w.table
  pub term_after : term' ≡ w.written.term
  pub memory_after : memory' ≡ w.written.memory
  pub scratch_after : ScratchAfter w.written.answer spare_term spare'

abbrev pub RunDone : (rules list table term memory spare_term spare_memory : List ℕ) (r : Result Totals Refusal) (table' term' memory' spare' : List ℕ) → Type 0
RunDone rules list table term memory spare_term spare_memory r table' term' memory' spare' = Ran (run rules list table term memory spare_term spare_memory) spare_term r table' term' memory' spare'
