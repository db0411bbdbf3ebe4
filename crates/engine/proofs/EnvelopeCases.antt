-- A case for each way that an envelope returns, and what a closure's state has to do with the state after it (document 01, "Operations": each call admits and checks
-- everything itself).
use Rattle.std.proofs.Common.{◌≡◌, List, ℕ, refl, sym, ap, subst, Err, Result}
use Rattle.eb3.specs.RuleReading.{read_rules}
use Rattle.eb3.specs.Blocks.{open_blocks}
use Rattle.eb3.specs.Admission.{ended, within_limits, admission}
use Rattle.eb3.specs.Answers.{Answer, refused, answered, and_then}
use Rattle.eb3.specs.Operations.{term_in}
use Rattle.given.specs.Giving.{given_in}
use Rattle.engine.specs.Enveloping.{OnAnswer}
use Rattle.refusals.specs.declared.Refusal.{Refusal}
use Rattle.refusals.specs.Numbers.{number}
use Rattle.refusals.specs.Laws.Numbers.{refusal_number}

-- A file whose blocks are refused gives no rule set.
pub unopened : (rules : List ℕ) (k : Refusal) → open_blocks rules ≡ refused (number k) → admission rules ≡ refused (number k)
unfolding admission and_then
unopened rules k e = ap (λ a. and_then (and_then a λ o. ended (read_rules o.edition o.words)) within_limits) e

-- Nor does it with any term.
pub unopened_given : (rules term : List ℕ) (k : Refusal) → open_blocks rules ≡ refused (number k) → given_in rules term ≡ refused (number k)
unfolding and_then
unopened_given rules term k e = ap (λ a. and_then a λ R. and_then (term_in R term) λ E. answered (R, E)) (unopened rules k e)

module _ {X F A : Type 0} (called : X → F → Result A Refusal → F → Type 0) where
  pub refused_at : (a : Answer X) (k : Refusal) (f : F) → a ≡ refused (number k) → OnAnswer called f a (Err k) f
  unfolding OnAnswer
  refused_at a k f e = subst (λ x. OnAnswer called f x (Err k) f) (sym e) (ap Err (sym (refusal_number k)), refl)

  pub called_at : (a : Answer X) (x : X) (f : F) (r : Result A Refusal) (f' : F) → a ≡ answered x → called x f r f' → OnAnswer called f a r f'
  unfolding OnAnswer
  called_at a x f r f' e c = subst (λ y. OnAnswer called f y r f') (sym e) c

  -- What a closure's state has to do with itself and with the state after any call.
  pub leaves : (a : Answer X) {f f' : F} {r : Result A Refusal} → OnAnswer called f a r f' → (P : F → F → Type 0) → P f f → ((x : X) → called x f r f' → P f f') → P f f'
  unfolding OnAnswer
  leaves (refused k) {f} h P same says = subst (P f) (sym h.1) same
  leaves (answered x) h P same says = says x h
