-- Count, case by case: as the rule set or the term is (`count_given`), refused for want of cells (`count_short`), or the number of moves
-- (`count_done`). Document 01, "Operations".
use Rattle.std.specs.Prelude.{◌≡◌, List, ℕ, ◌≤◌, ◌<◌, length, Ok, Err}
use Rattle.std.proofs.Math.Path.{refl, ap, sym}
use Rattle.std.proofs.Common.{◌∙◌, le-leb}
use Rattle.std.proofs.lemmas.Bool.{lt-leb}
use Rattle.eb3.specs.Refusal
use Rattle.eb3.specs.Terms.{Term}
use Rattle.eb3.specs.RuleSets.{RuleSet}
use Rattle.eb3.specs.Reading.{pick}
use Rattle.eb3.specs.Admission.{admission}
use Rattle.eb3.specs.Memory.{cell_room}
use Rattle.eb3.specs.Answers.{Answer, refused, answered, and_then}
use Rattle.eb3.specs.Operations.{cells_needed, term_in, listed, counted_at, count}
use Rattle.given.specs.Giving.{given_in}
use Rattle.refusals.specs.declared.Refusal.TheVariants.{Space}
use Rattle.refusals.specs.Numbers.{refusal}
use Rattle.engine.specs.Counting.{counted_as}

module _ (rules term memory : List ℕ) where
  -- what follows the term follows both
  both_known : (R : RuleSet) (a : Answer Term) → (and_then a λ E. counted_at R E memory) ≡ and_then {X = RuleSet × Term} (and_then a λ E. answered (R, E)) λ p. counted_at p.0 p.1 memory
  unfolding and_then
  both_known R (refused k) = refl
  both_known R (answered E) = refl

  by_admitted : (a : Answer RuleSet) → (and_then a λ R. and_then (term_in R term) λ E. counted_at R E memory) ≡ and_then {X = RuleSet × Term} (and_then a λ R. and_then (term_in R term) λ E. answered (R, E)) λ p. counted_at p.0 p.1 memory
  unfolding and_then
  by_admitted (refused k) = refl
  by_admitted (answered R) = both_known R (term_in R term)

  pub count_given : count rules term memory ≡ and_then (given_in rules term) λ p. counted_at p.0 p.1 memory
  unfolding count
  count_given = by_admitted (admission rules)

module _ (memory : List ℕ) (R : RuleSet) (E : Term) where
  pub count_short : cell_room memory < cells_needed R → Err Space ≡ counted_as (counted_at R E memory)
  unfolding counted_as refusal
  count_short h = sym (ap (λ b. counted_as (pick b (answered (length (listed R E memory))) (refused Refusal.space))) (lt-leb (cells_needed R) (cell_room memory) h))

  pub count_done : cells_needed R ≤ cell_room memory → (n : ℕ) → n ≡ length (listed R E memory) → Ok n ≡ counted_as (counted_at R E memory)
  unfolding counted_as
  count_done h n f = ap Ok f ∙ sym (ap (λ b. counted_as (pick b (answered (length (listed R E memory))) (refused Refusal.space))) (le-leb (cells_needed R) (cell_room memory) h))
