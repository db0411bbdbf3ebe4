-- Running terms, actions and masks (document 01, "Unfolding, size and breadth"; source 000, figure 4's E).
use Rattle.std.specs.Prelude.{Bool, true, false, ◌&&◌, List, ℕ, ◌^◌, ◌/◌, ◌%◌, eqb, get_or}
use mathlib.Core.List.{is_set}
use Rattle.std.proofs.Math.Nat.{ℕ_set}
use Rattle.eb3.specs.Generic.Lists.{same_list}
use Rattle.eb3.specs.Expressions.{Cond}

-- A label with its arguments.
pub record VisibleAction : Type 0 where
  pub label : ℕ
  pub arguments : List ℕ

-- Visible actions are a set: equal in one way at most.
pub VisibleAction_set : IsSet VisibleAction
VisibleAction_set x y p q = λ i j. record {
  label = ℕ_set x.label y.label (λ k. (p k).label) (λ k. (q k).label) i j;
  arguments = is_set ℕ_set x.arguments y.arguments (λ k. (p k).arguments) (λ k. (q k).arguments) i j;
}

-- The sources' ρ: λ, or a visible action.
pub data Action : Type 0 where
  internal : Action
  visible : VisibleAction → Action
  deriving IsSet as Action_set_over

-- A mask is its words; bit j of word i is the bit of label 16 × i + j (Laws/Masks).
abbrev pub Mask : Type 0
Mask = List ℕ

unfoldable pub bit : Mask → ℕ → Bool
bit Δ label = eqb (get_or Δ (label / 16) 0 / 2 ^ (label % 16) % 2) 1

-- The sources' in(ρ, Δ). The internal action is outside every mask.
unfoldable pub in_mask : Mask → Action → Bool
in_mask Δ internal = false
in_mask Δ (visible a) = bit Δ a.label

-- Codes 30 and 20 to 26.
pub data Term : Type 0 where
  Done : Term
  Internal : Term
  Perform : VisibleAction → Term
  Sequence : Term → Term → Term
  Choice : Term → Term → Term
  Star : Term → Term
  Parallel : Mask → Term → Term → Term
  Guard : Cond → Term → Term

unfoldable pub done? : Term → Bool
done? Done = true
done? Internal = false
done? (Perform a) = false
done? (Sequence E F) = false
done? (Choice E F) = false
done? (Star E) = false
done? (Parallel Δ E F) = false
done? (Guard C E) = false

-- Equal actions: label and arguments.
unfoldable pub same_action : Action → Action → Bool
same_action internal internal = true
same_action internal (visible b) = false
same_action (visible a) internal = false
same_action (visible a) (visible b) = eqb a.label b.label && same_list a.arguments b.arguments
