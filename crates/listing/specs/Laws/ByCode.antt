-- A code says which term begins with it: one case for each code.
-- Document 01, "Moves, in order".
use Rattle.std.specs.Prelude.{◌≡◌, List, ℕ}
use Rattle.std.proofs.Common.{arith}
use Rattle.eb3.specs.Expressions.{Cond}
use Rattle.eb3.specs.Terms.{Term, Done, Internal, Perform, Sequence, Choice, Star, Parallel, Guard, VisibleAction}
use Rattle.listing.specs.Positions.{code_in_front}

-- What is known of a code after the cases from 20 to 26.
abbrev pub NoOther : ℕ → Type 0
NoOther w = ((((((Unit {0} × (w ≡ 20 → ⊥)) × (w ≡ 21 → ⊥)) × (w ≡ 22 → ⊥)) × (w ≡ 23 → ⊥)) × (w ≡ 24 → ⊥)) × (w ≡ 25 → ⊥)) × (w ≡ 26 → ⊥)

module _ (Q : Term → Type 0) where
  pub by_done : Q Done → (X : Term) → 30 ≡ code_in_front X → Q X
  unfolding code_in_front
  by_done f Done e = f
  by_done f Internal e = absurd (omega (arith, e))
  by_done f (Perform a) e = absurd (omega (arith, e))
  by_done f (Sequence E F) e = absurd (omega (arith, e))
  by_done f (Choice E F) e = absurd (omega (arith, e))
  by_done f (Star E) e = absurd (omega (arith, e))
  by_done f (Parallel Δ E F) e = absurd (omega (arith, e))
  by_done f (Guard C E) e = absurd (omega (arith, e))

  pub by_internal : Q Internal → (X : Term) → 20 ≡ code_in_front X → Q X
  unfolding code_in_front
  by_internal f Done e = absurd (omega (arith, e))
  by_internal f Internal e = f
  by_internal f (Perform a) e = absurd (omega (arith, e))
  by_internal f (Sequence E F) e = absurd (omega (arith, e))
  by_internal f (Choice E F) e = absurd (omega (arith, e))
  by_internal f (Star E) e = absurd (omega (arith, e))
  by_internal f (Parallel Δ E F) e = absurd (omega (arith, e))
  by_internal f (Guard C E) e = absurd (omega (arith, e))

  pub by_perform : ((a : VisibleAction) → Q (Perform a)) → (X : Term) → 21 ≡ code_in_front X → Q X
  unfolding code_in_front
  by_perform f Done e = absurd (omega (arith, e))
  by_perform f Internal e = absurd (omega (arith, e))
  by_perform f (Perform a) e = f a
  by_perform f (Sequence E F) e = absurd (omega (arith, e))
  by_perform f (Choice E F) e = absurd (omega (arith, e))
  by_perform f (Star E) e = absurd (omega (arith, e))
  by_perform f (Parallel Δ E F) e = absurd (omega (arith, e))
  by_perform f (Guard C E) e = absurd (omega (arith, e))

  pub by_sequence : ((E F : Term) → Q (Sequence E F)) → (X : Term) → 22 ≡ code_in_front X → Q X
  unfolding code_in_front
  by_sequence f Done e = absurd (omega (arith, e))
  by_sequence f Internal e = absurd (omega (arith, e))
  by_sequence f (Perform a) e = absurd (omega (arith, e))
  by_sequence f (Sequence E F) e = f E F
  by_sequence f (Choice E F) e = absurd (omega (arith, e))
  by_sequence f (Star E) e = absurd (omega (arith, e))
  by_sequence f (Parallel Δ E F) e = absurd (omega (arith, e))
  by_sequence f (Guard C E) e = absurd (omega (arith, e))

  pub by_choice : ((E F : Term) → Q (Choice E F)) → (X : Term) → 23 ≡ code_in_front X → Q X
  unfolding code_in_front
  by_choice f Done e = absurd (omega (arith, e))
  by_choice f Internal e = absurd (omega (arith, e))
  by_choice f (Perform a) e = absurd (omega (arith, e))
  by_choice f (Sequence E F) e = absurd (omega (arith, e))
  by_choice f (Choice E F) e = f E F
  by_choice f (Star E) e = absurd (omega (arith, e))
  by_choice f (Parallel Δ E F) e = absurd (omega (arith, e))
  by_choice f (Guard C E) e = absurd (omega (arith, e))

  pub by_star : ((E : Term) → Q (Star E)) → (X : Term) → 24 ≡ code_in_front X → Q X
  unfolding code_in_front
  by_star f Done e = absurd (omega (arith, e))
  by_star f Internal e = absurd (omega (arith, e))
  by_star f (Perform a) e = absurd (omega (arith, e))
  by_star f (Sequence E F) e = absurd (omega (arith, e))
  by_star f (Choice E F) e = absurd (omega (arith, e))
  by_star f (Star E) e = f E
  by_star f (Parallel Δ E F) e = absurd (omega (arith, e))
  by_star f (Guard C E) e = absurd (omega (arith, e))

  pub by_parallel : ((Δ : List ℕ) (E F : Term) → Q (Parallel Δ E F)) → (X : Term) → 25 ≡ code_in_front X → Q X
  unfolding code_in_front
  by_parallel f Done e = absurd (omega (arith, e))
  by_parallel f Internal e = absurd (omega (arith, e))
  by_parallel f (Perform a) e = absurd (omega (arith, e))
  by_parallel f (Sequence E F) e = absurd (omega (arith, e))
  by_parallel f (Choice E F) e = absurd (omega (arith, e))
  by_parallel f (Star E) e = absurd (omega (arith, e))
  by_parallel f (Parallel Δ E F) e = f Δ E F
  by_parallel f (Guard C E) e = absurd (omega (arith, e))

  pub by_guard : ((C : Cond) (E : Term) → Q (Guard C E)) → (X : Term) → 26 ≡ code_in_front X → Q X
  unfolding code_in_front
  by_guard f Done e = absurd (omega (arith, e))
  by_guard f Internal e = absurd (omega (arith, e))
  by_guard f (Perform a) e = absurd (omega (arith, e))
  by_guard f (Sequence E F) e = absurd (omega (arith, e))
  by_guard f (Choice E F) e = absurd (omega (arith, e))
  by_guard f (Star E) e = absurd (omega (arith, e))
  by_guard f (Parallel Δ E F) e = absurd (omega (arith, e))
  by_guard f (Guard C E) e = f C E

  -- with any other code no term begins but one that is done
  pub by_rest : (w : ℕ) → NoOther w → Q Done → (X : Term) → w ≡ code_in_front X → Q X
  unfolding code_in_front
  by_rest w h f Done e = f
  by_rest w h f Internal e = absurd (h.0.0.0.0.0.0.1 e)
  by_rest w h f (Perform a) e = absurd (h.0.0.0.0.0.1 e)
  by_rest w h f (Sequence E F) e = absurd (h.0.0.0.0.1 e)
  by_rest w h f (Choice E F) e = absurd (h.0.0.0.1 e)
  by_rest w h f (Star E) e = absurd (h.0.0.1 e)
  by_rest w h f (Parallel Δ E F) e = absurd (h.0.1 e)
  by_rest w h f (Guard C E) e = absurd (h.1 e)
