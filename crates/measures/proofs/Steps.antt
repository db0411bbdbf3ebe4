-- Steps one after the other: equal copies nested to the right, one more at the front each time, and stars laid around a term.
-- Document 01, "Unfolding, size and breadth"; refusals 7 and 8.
use mathlib.Core.Path.{◌≡◌, refl, sym, ap, ◌∙◌}
use Prim.Native.Nat.{ℕ, zero, suc, ◌+◌, ◌-◌}
use native.Mathlib.Omega.{arith}
use native.Mathlib.Numerals.{add-one}
use Rattle.eb3.specs.Unfolding.{right_nest}
use Rattle.eb3.specs.Measures.{sat, Measure, star_of}
use Rattle.eb3.proofs.Laws.Unfolding.{nest_one, nest_more}
use Rattle.measures.specs.Weighing.{cap, stars_of, steps}

module _ (f : Measure → Measure) (m : Measure) where
  pub no_step : m ≡ steps f 0 m
  unfolding steps
  no_step = refl

  pub next_step : (i : ℕ) {w v : Measure} → w ≡ steps f i m → v ≡ f w → v ≡ steps f (i + 1) m
  unfolding steps
  next_step i e h = h ∙ ap f e ∙ ap (λ k. steps f k m) (sym (add-one i))

module _ (z : Measure) (join : Measure → Measure → Measure) (m : Measure) where
  nested : (n : ℕ) → steps (join m) n m ≡ right_nest z join (suc n) (λ x. m)
  unfolding steps
  nested zero = sym (nest_one z join (λ x. m))
  nested (suc n) = ap (join m) (nested n) ∙ sym (nest_more z join n (λ x. m))

  pub copies : (n : ℕ) {w : Measure} → (n ≡ 0 → ⊥) → w ≡ steps (join m) (n - 1) m → w ≡ right_nest z join n (λ x. m)
  copies n h e =
      let k : suc (n - 1) ≡ n = omega arith in
      rw k at (e ∙ nested (n - 1))

  pub no_copy : (n : ℕ) {w : Measure} → n ≡ 0 → w ≡ z → w ≡ right_nest z join n (λ x. m)
  unfolding right_nest
  no_copy n e f = rw e f

pub laid : (n : ℕ) (m : Measure) → steps (star_of (sat cap)) n m ≡ stars_of n m
unfolding steps stars_of
laid zero m = refl
laid (suc n) m = ap (star_of (sat cap)) (laid n m)
