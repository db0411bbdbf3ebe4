-- What Start answers and leaves, by the specification's operation (document 01, "Operations").
use Rattle.std.specs.Prelude.{◌≡◌, List, ℕ, Ok, Err, Result}
use Rattle.eb3.specs.Answers.{Answer, refused, answered, Written}
use Rattle.eb3.specs.Operations.{start}
use Rattle.refusals.specs.declared.Refusal.{Refusal}
use Rattle.refusals.specs.Numbers.{refusal}

-- The start term's size, or the refusal of this number.
unfoldable pub started_as : Answer ℕ → Result ℕ Refusal
started_as (refused k) = Err (refusal k)
started_as (answered n) = Ok n

-- With the lent buffers afterwards.
pub record Started (w : Written ℕ) (r : Result ℕ Refusal) (term' memory' : List ℕ) : Type 0 where
  pub answer : r ≡ started_as w.answer
  pub term_after : term' ≡ w.term
  pub memory_after : memory' ≡ w.memory

abbrev pub StartDone : (rules term memory : List ℕ) (r : Result ℕ Refusal) (term' memory' : List ℕ) → Type 0
StartDone rules term memory r term' memory' = Started (start rules term memory) r term' memory'
