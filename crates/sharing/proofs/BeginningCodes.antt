-- The actions of running terms have numbers below 1,048,576. Then how far writing came, by its three numbers (document 01, "Moves, in order").
use mathlib.Core.Path.{◌≡◌, ap, ◌∙◌}
use mathlib.Core.List.{List}
use Prim.Native.Nat.{ℕ, ◌≤◌, ◌<◌}
use native.Mathlib.Omega.{arith}
use Rattle.std.specs.Prelude.{Option, Some}
use Rattle.std.proofs.lemmas.Option.{same_Some}
use Rattle.eb3.specs.Terms.{Action, internal, visible}
use Rattle.actions.specs.Codes.{action_code, Small}
use Rattle.actions.specs.Laws.Codes.{few_arguments}
use Rattle.sharing.specs.Beginning.{Reached, reached, ActionNumber}

small_number : (ρ : Action) → Small ρ → action_code ρ < 1048576
unfolding action_code
small_number internal h = omega arith
small_number (visible a) h = omega (arith, h.0, few_arguments a.arguments h.1 h.2)

-- No action after its code has a number of 1,048,576 or more.
pub never_large : (t : List ℕ) (r : ℕ) → ActionNumber t r → 1048576 ≤ r → ActionNumber t 0
never_large t r f h a rest i = absurd (omega (arith, h, f a rest i, small_number (visible a) i.small))

-- ── how far writing came ──

abbrev Same : Reached → Reached → Type 0
Same x y = ◌≡◌ {A = Option Reached} (Some x) (Some y)

pub further : {r : Option Reached} {i j left a : ℕ} → i ≡ j → r ≡ Some (reached i left a) → r ≡ Some (reached j left a)
further {left = left} {a} e h = h ∙ ap (λ k. Some (reached k left a)) e

module _ {i left a j l b : ℕ} where
  pub reached_same : i ≡ j → left ≡ l → a ≡ b → Same (reached i left a) (reached j l b)
  reached_same e f g = ap (λ k. Some (reached k left a)) e ∙ (ap (λ k. Some (reached j k a)) f ∙ ap (λ k. Some (reached j l k)) g)

  module _ (e : Same (reached i left a) (reached j l b)) where
    same : reached i left a ≡ reached j l b
    same = same_Some (reached i left a) (reached j l b) e

    pub same_at : i ≡ j
    same_at = ap (λ (x : Reached). x.at) same

    pub same_left : left ≡ l
    same_left = ap (λ (x : Reached). x.left) same

    pub same_action : a ≡ b
    same_action = ap (λ (x : Reached). x.action) same
