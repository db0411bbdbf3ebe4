-- What an operation answers and leaves by what it does at the rule set that was admitted and, where one is given, the term (document 01, "Operations": each
-- call admits and checks everything itself). `calls` are the calls of what it does: from which state, at what, with which answer, into which state.
use Rattle.std.specs.Prelude.{◌≡◌, List, ℕ, ◌≤◌, length, Err, Result}
use Rattle.std.specs.Borrow.{Bor}
use Rattle.eb3.specs.Terms.{Term}
use Rattle.eb3.specs.RuleSets.{RuleSet}
use Rattle.eb3.specs.Sizes.{reach}
use Rattle.eb3.specs.Answers.{Answer, refused, answered}
use Rattle.eb3.specs.Operations.{sizes_needed}
use Rattle.measures.specs.declared.Limits.{Limits}
use Rattle.admission.specs.Answering.{limits}
use Rattle.runs.specs.declared.admitted.Admitted.{Admitted}
use Rattle.engine.specs.Describing.{AdmittedAs, DescribedBy}
use Rattle.refusals.specs.declared.Refusal.{Refusal}
use Rattle.refusals.specs.Numbers.{refusal}

-- Refused with no call and nothing changed, or what the call at what is answered answers and leaves.
unfoldable pub OnAnswer : {X F A : Type 0} → (X → F → Result A Refusal → F → Type 0) → F → Answer X → Result A Refusal → F → Type 0
OnAnswer called f (refused k) r f' = (r ≡ Err (refusal k)) × (f' ≡ f)
OnAnswer called f (answered x) r f' = called x f r f'

-- The call at a rule set that was admitted, and its sizes.
pub record RulesCall {F A : Type 0} (calls : F → Bor Admitted → Limits → Result A Refusal → F → Type 0) (R : RuleSet) (f : F) (r : Result A Refusal) (f' : F) : Type 0 where
  pub rules : Bor Admitted
  pub sizes : Limits
  pub described : AdmittedAs rules.now R
  pub sizes_are : sizes ≡ limits (sizes_needed R)
  pub called : calls f rules sizes r f'

-- The call at a rule set and its term: at the term's words and its reach.
pub record TermCall {F A : Type 0} (calls : F → Bor Admitted → Bor (List ℕ) → ℕ → Result A Refusal → F → Type 0) (given : RuleSet × Term) (f : F) (r : Result A Refusal) (f' : F) : Type 0 where
  pub rules : Bor Admitted
  pub words : Bor (List ℕ)
  pub most : ℕ
  pub described : DescribedBy rules.now given.0 given.1 words.now
  pub most_is : most ≡ reach given.0.edition.width given.1
  pub called : calls f rules words most r f'

-- It may be called at any rule set that was admitted, and at any words that a term may have.
abbrev pub TakesTerms : (Bor Admitted → Bor (List ℕ) → ℕ → Type 0) → Type 0
TakesTerms takes = (rules : Bor Admitted) (s : Bor (List ℕ)) (g : ℕ) → length s.now ≤ 65535 → takes rules s g
