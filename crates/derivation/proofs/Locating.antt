-- The sides of a parallel's move, from the answers of the three searches: left's that move alone, right's, pairs.
use mathlib.Core.Path.{◌≡◌, refl, sym, ap, ◌∙◌, subst}
use mathlib.Core.Bool.{Bool, not}
use mathlib.Core.List.{List, ◌++◌}
use Prim.Native.Nat.{ℕ, ◌+◌}
use native.Mathlib.Omega.{arith}
use lib.Bits.{bit_or}
use lib.ListN.{length, length-append}
use Rattle.std.specs.Prelude.{Result, Ok, Err}
use Rattle.eb3.specs.Generic.Lists.{filter}
use Rattle.actions.specs.Sets.{in_set}
use Rattle.listing.specs.Combining.{outside, pairs}
use Rattle.paths.specs.Paths.{Sides, seek, left_alone, right_alone, together, alone, paired, or_right, or_left, seek_pair, locate}
use Rattle.derivation.specs.Searching.{nth_place, nth_pair, shown_combined, SidesAre}
use Rattle.derivation.proofs.Lists.{length_outside}
use Rattle.derivation.proofs.Places.{Placed, here, past, placed, PairPlaced, pair_here, pair_past, pair_placed}

-- ── which answers are the same ──

abbrev ok_or : {T E : Type 0} → T → Result T E → T
ok_or d (Ok a) = a
ok_or d (Err e) = d

abbrev is_ok : {T E : Type 0} → Result T E → Type 0
is_ok (Ok a) = Unit
is_ok (Err e) = ⊥

abbrev err_or : {T : Type 0} → Result T ℕ → ℕ
err_or (Ok a) = 0
err_or (Err e) = e

ok_is : {T E : Type 0} {a b : T} {r : Result T E} → r ≡ Ok a → r ≡ Ok b → a ≡ b
ok_is {a = a} e f = ap (ok_or a) (sym e ∙ f)

err_is : {T : Type 0} {a b : ℕ} {r : Result T ℕ} → r ≡ Err a → r ≡ Err b → a ≡ b
err_is e f = ap err_or (sym e ∙ f)

ok_err : {A T E : Type 0} {a : T} {b : E} {r : Result T E} → r ≡ Ok a → r ≡ Err b → A
ok_err e f = absurd (subst is_ok (sym e ∙ f) tt)

-- ── the sides ──

-- y is the set of x and the mask's set δ joined
module _ (x δ y : ℕ) (joined : y ≡ bit_or x δ) (xs ys : List ℕ) (k : ℕ) where
  abbrev free : ℕ → Bool
  free = alone x δ

  abbrev L : ℕ
  L = length (filter free xs)

  abbrev R : ℕ
  R = length (filter free ys)

  abbrev B : ℕ
  B = length (pairs (paired x δ) xs ys)

  abbrev All : ℕ
  All = length (shown_combined x δ xs ys)

  all_is : All ≡ L + (R + B)
  unfolding shown_combined
  all_is = omega (
    arith,
    length-append (outside (in_set (bit_or x δ)) xs) (outside (in_set (bit_or x δ)) ys ++ pairs (paired x δ) xs ys),
    length-append (outside (in_set (bit_or x δ)) ys) (pairs (paired x δ) xs ys),
    length_outside (in_set (bit_or x δ)) xs,
    length_outside (in_set (bit_or x δ)) ys,
  )

  abbrev kept : ℕ → Bool
  kept c = not (in_set y c)

  sought : (zs : List ℕ) (n : ℕ) → nth_place kept 0 zs n ≡ nth_place free 0 zs n
  sought zs n = ap (λ w. nth_place (λ c. not (in_set w c)) 0 zs n) joined

  abbrev sides : Sides
  sides = locate free (paired x δ) xs ys k

  locate_is : sides ≡ or_left free (paired x δ) xs ys (seek free xs k)
  unfolding locate
  locate_is = refl

  -- found among the left's
  left_found : {r : Result ℕ ℕ} (i : ℕ) → Placed 0 (length xs) L k r (seek free xs k) → r ≡ Ok i → SidesAre x δ xs ys k (left_alone i)
  left_found i (here j e l f g) h =
      let q : i ≡ j = omega (arith, ok_is h e) in
      record { shows = omega (arith, all_is); within = omega arith; located = locate_is ∙ ap (or_left free (paired x δ) xs ys) f ∙ ap left_alone (sym q) }
  left_found i (past j e f g) h = ok_err h e

  pub located_left : (i : ℕ) → Ok i ≡ nth_place kept 0 xs k → SidesAre x δ xs ys k (left_alone i)
  located_left i e = left_found i (placed free 0 xs k) (sym (e ∙ sought xs k))

  left_passed : {r : Result ℕ ℕ} (i : ℕ) → Placed 0 (length xs) L k r (seek free xs k) → r ≡ Err i → (k ≡ L + i) × (sides ≡ or_right (paired x δ) xs ys (seek free ys i))
  left_passed i (here j e l f g) h = ok_err e h
  left_passed i (past j e f g) h =
      let q : j ≡ i = err_is e h in
      (omega arith, locate_is ∙ ap (or_left free (paired x δ) xs ys) f ∙ ap (λ n. or_right (paired x δ) xs ys (seek free ys n)) q)

  module _ (i : ℕ) (isi : Err i ≡ nth_place kept 0 xs k) where
    past_left : (k ≡ L + i) × (sides ≡ or_right (paired x δ) xs ys (seek free ys i))
    past_left = left_passed i (placed free 0 xs k) (sym (isi ∙ sought xs k))

    right_found : {r : Result ℕ ℕ} (j : ℕ) → Placed 0 (length ys) R i r (seek free ys i) → r ≡ Ok j → SidesAre x δ xs ys k (right_alone j)
    right_found j (here a e l f g) h =
        let q : j ≡ a = omega (arith, ok_is h e) in
        record { shows = omega (arith, all_is, past_left.0); within = omega arith; located = past_left.1 ∙ ap (or_right (paired x δ) xs ys) f ∙ ap right_alone (sym q) }
    right_found j (past a e f g) h = ok_err h e

    pub located_right : (j : ℕ) → Ok j ≡ nth_place kept 0 ys i → SidesAre x δ xs ys k (right_alone j)
    located_right j e = right_found j (placed free 0 ys i) (sym (e ∙ sought ys i))

    right_passed : {r : Result ℕ ℕ} (j : ℕ) → Placed 0 (length ys) R i r (seek free ys i) → r ≡ Err j → (i ≡ R + j) × (sides ≡ seek_pair (paired x δ) 0 xs ys j)
    right_passed j (here a e l f g) h = ok_err e h
    right_passed j (past a e f g) h =
        let q : a ≡ j = err_is e h in
        (omega arith, past_left.1 ∙ ap (or_right (paired x δ) xs ys) f ∙ ap (seek_pair (paired x δ) 0 xs ys) q)

    module _ (j : ℕ) (isj : Err j ≡ nth_place kept 0 ys i) where
      past_right : (i ≡ R + j) × (sides ≡ seek_pair (paired x δ) 0 xs ys j)
      past_right = right_passed j (placed free 0 ys i) (sym (isj ∙ sought ys i))

      pair_found : {r : Result (ℕ × ℕ) ℕ} (v w : ℕ) → PairPlaced 0 (length xs) (length ys) B j r (seek_pair (paired x δ) 0 xs ys j) → r ≡ Ok (v, w) → SidesAre x δ xs ys k (together v w)
      pair_found v w (pair_here a b e l o f g) h =
          let q : (v, w) ≡ (0 + a, b) = ok_is h e in
          let m : v ≡ 0 + a = ap (λ z. z.0) q in
          let n : w ≡ b = ap (λ z. z.1) q in
          record { shows = omega (arith, all_is, past_left.0, past_right.0); within = (omega arith, omega arith); located = past_right.1 ∙ f ∙ (λ t. together (sym m t) (sym n t)) }
      pair_found v w (pair_past a e g) h = ok_err h e

      pair_passed : {r : Result (ℕ × ℕ) ℕ} (w : ℕ) → PairPlaced 0 (length xs) (length ys) B j r (seek_pair (paired x δ) 0 xs ys j) → r ≡ Err w → k ≡ All + w
      pair_passed w (pair_here a b e l o f g) h = ok_err e h
      pair_passed w (pair_past a e g) h = omega (arith, all_is, past_left.0, past_right.0, err_is e h)

      pub located_both : (v w : ℕ) → Ok (v, w) ≡ nth_pair (paired x δ) 0 xs ys j → SidesAre x δ xs ys k (together v w)
      located_both v w e = pair_found v w (pair_placed (paired x δ) ys 0 xs j) (sym e)

      pub located_none : (w : ℕ) → Err w ≡ nth_pair (paired x δ) 0 xs ys j → k ≡ length (shown_combined x δ xs ys) + w
      located_none w e = pair_passed w (pair_placed (paired x δ) ys 0 xs j) (sym e)
