-- A case for each way that Count returns (document 01, "Operations": Count).
use mathlib.Core.Path.{◌≡◌, ap, sym, ◌∙◌}
use mathlib.Core.List.{List}
use Prim.Native.Nat.{ℕ, ◌%◌, ◌≤◌, ◌<◌}
use native.Mathlib.Omega.{arith}
use lib.ListN.{length}
use Rattle.eb3.specs.Terms.{Term}
use Rattle.eb3.specs.Scopes.{Scope, guard_scope}
use Rattle.eb3.specs.Moves.{moves}
use Rattle.eb3.specs.RuleSets.{RuleSet, attributes}
use Rattle.eb3.specs.Memory.{cell_room}
use Rattle.eb3.proofs.Laws.Sizes.{moves_below_breadth}
use Rattle.eb3.specs.Answers.{Answer, refused, answered, and_then}
use Rattle.eb3.specs.Operations.{cells_given, listed, counted_at, count}
use Rattle.listing.specs.Listing.{holding}
use Rattle.steps.specs.Counting.{Whole}
use Rattle.steps.specs.Storing.{Ruled, Stored}
use Rattle.steps.specs.Laws.Judging.{whole, moves_judged}
use Rattle.given.specs.Giving.{given_in}
use Rattle.runs.specs.declared.admitted.Admitted.{Admitted}
use Rattle.engine.specs.Describing.{DescribedBy}
use Rattle.engine.specs.Laws.Describing.{described_by_ruled}
use Rattle.engine.specs.Counting.{counted_as}
use Rattle.engine.specs.Laws.Counting.{count_given, count_short, count_done}
use Rattle.engine.specs.Enveloping.{OnAnswer, TermCall}
use Rattle.std.specs.Borrow.{Bor}
use Rattle.std.specs.Prelude.{Ok, Err, Result}
use Rattle.refusals.specs.declared.Refusal.{Refusal}
use Rattle.refusals.specs.declared.Refusal.TheVariants.{Space}

-- From a loaded store.
pub counted_loaded : (rules : Admitted) (s B M : List ℕ) (x y : ℕ)
    → ((R : RuleSet) (t T : List ℕ) → Ruled R t T rules.functions.directory.now rules.functions.width rules.functions.count rules.functions.cells → rules.functions.cells ≤ cell_room B → Stored R (cells_given R B) M)
    → ((P : Scope) (E : Term) → Whole s P E → x ≡ length (moves (holding M) E)) → y ≡ x % 4294967296
    → (R : RuleSet) (E : Term) → DescribedBy rules R E s → rules.functions.cells ≤ cell_room B → y ≡ length (listed R E B)
counted_loaded rules s B M x y loaded counts ey R E by enough =
    let d = by.described in
    let st : Stored R (cells_given R B) M = loaded R _ _ (described_by_ruled rules R E s by) enough in
    let a : x ≡ length (moves (holding M) E) = counts (guard_scope (attributes R) 0) E (whole R d.form rules.tables.now d.directory.declares E d.term.running s d.term.words_are) in
    let b : x ≡ length (listed R E B) = a ∙ ap length (moves_judged R d.form rules.tables.now d.directory.declares E d.term.running.form (cells_given R B) M st) in
    omega (arith, b, ey, moves_below_breadth (holding M) E, a, d.term.running.breadth_limit)

-- From the words of a term.
module _ (memory : List ℕ) {rules : Admitted} {s : List ℕ} where
  pub counted_short : cell_room memory < rules.functions.cells → (R : RuleSet) (E : Term) → DescribedBy rules R E s → Err Space ≡ counted_as (counted_at R E memory)
  counted_short h R E by = count_short memory R E (omega (arith, by.cells_are))

  pub counted_done : rules.functions.cells ≤ cell_room memory → (y : ℕ) → ((R : RuleSet) (E : Term) → DescribedBy rules R E s → rules.functions.cells ≤ cell_room memory → y ≡ length (listed R E memory))
      → (R : RuleSet) (E : Term) → DescribedBy rules R E s → Ok y ≡ counted_as (counted_at R E memory)
  counted_done h y counts R E by = count_done memory R E (omega (arith, by.cells_are)) y (counts R E by h)

-- From the bytes.
pub counted_given : {F : Type 0} (calls : F → Bor Admitted → Bor (List ℕ) → ℕ → Result ℕ Refusal → F → Type 0) {f f' : F} (rules term : List ℕ) {r : Result ℕ Refusal} → OnAnswer (TermCall calls) f (given_in rules term) r f'
    → (memory : List ℕ) → ((x : Bor Admitted) (s : Bor (List ℕ)) (g : ℕ) → calls f x s g r f' → (R : RuleSet) (E : Term) → DescribedBy x.now R E s.now → r ≡ counted_as (counted_at R E memory))
    → r ≡ counted_as (count rules term memory)
unfolding OnAnswer counted_as and_then
counted_given calls {f} {f'} rules term {r} h memory says = go (given_in rules term) h ∙ sym (ap counted_as (count_given rules term memory))
  where
    go : (a : Answer (RuleSet × Term)) → OnAnswer (TermCall calls) f a r f' → r ≡ counted_as (and_then a λ p. counted_at p.0 p.1 memory)
    go (refused k) h = h.0
    go (answered p) h = says h.rules h.words h.most h.called p.0 p.1 h.described
