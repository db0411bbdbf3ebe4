-- An action's arguments given as variables (document 01, "Memory and the history machine").
use mathlib.Core.Path.{◌≡◌, ◌∙◌}
use mathlib.Core.List.{List}
use Prim.Native.Nat.{ℕ, zero, suc, ◌%◌, ◌≤◌, ◌<◌}
use native.Mathlib.Omega.{arith}
use lib.ListN.{length, get_or, set, length-set}
use Rattle.eb3.specs.Generic.AllLists.{all_at}
use Rattle.eb3.specs.Terms.{VisibleAction, visible}
use Rattle.expressions.specs.Stores.{stored, argument_place, now_place}
use Rattle.actions.specs.Codes.{action_code, Small}
use Rattle.cells.specs.Laws.Turns.{stored_there, stored_else}
use Rattle.steps.specs.Keeping.{Given}

-- ── arguments given ──

-- What is read off an action's number as its argument at a place.
abbrev pub ArgumentRead : ℕ → ℕ → ℕ → Type 0
ArgumentRead code i x = (a : VisibleAction) → Small (visible a) → code ≡ action_code (visible a) → x ≡ get_or a.arguments i 0

-- An argument is below 64, so its low half is the argument.
argument_low : (code i x v : ℕ) → ArgumentRead code i x → v ≡ x % 65536 → (a : VisibleAction) → Small (visible a) → code ≡ action_code (visible a) → i < length a.arguments → v ≡ get_or a.arguments i 0
argument_low code i x v r e a small ec h =
    let l : get_or a.arguments i 0 < 64 = all_at (λ y. y < 64) a.arguments small.2 i 0 h in
    omega (arith, e, r a small ec)

pub variables_given : (M : List ℕ) (code x y v u : ℕ) → now_place ≤ length M → ArgumentRead code 0 x → v ≡ x % 65536 → ArgumentRead code 1 y → u ≡ y % 65536 → Given M (set (set M (argument_place 0) v) (argument_place 1) u) code
variables_given M code x y v u room rx ev ry eu = record {
  arguments_there = there;
  kept_above = λ i h. stored_else (set M (argument_place 0) v) (argument_place 1) i u (λ e. let z : ⊥ = omega arith in z) ∙ stored_else M (argument_place 0) i v (λ e. let z : ⊥ = omega arith in z);
}
  where
    there : (a : VisibleAction) → Small (visible a) → code ≡ action_code (visible a) → (i : ℕ) → i < length a.arguments → stored (set (set M (argument_place 0) v) (argument_place 1) u) (argument_place i) ≡ get_or a.arguments i 0
    there a small e zero h =
        stored_else (set M (argument_place 0) v) (argument_place 1) (argument_place 0) u (λ q. let z : ⊥ = omega arith in z) ∙ stored_there M (argument_place 0) v (omega arith) ∙ argument_low code 0 x v rx ev a small e h
    there a small e (suc zero) h = stored_there (set M (argument_place 0) v) (argument_place 1) u (omega (arith, length-set M (argument_place 0) v)) ∙ argument_low code 1 y u ry eu a small e h
    there a small e (suc (suc i)) h = absurd (let z : ⊥ = omega (arith, small.1) in z)
