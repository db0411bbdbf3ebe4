-- A case for each way that a function of values as words, or of the store, returns; the premises have the form of the facts known there.
use mathlib.Core.Path.{◌≡◌, refl, sym, ap, ◌∙◌, subst}
use mathlib.Core.Bool.{Bool, true, false, ◌&&◌, ◌||◌}
use mathlib.Core.Logic.{◌⊎◌, inl, inr}
use mir.Val.{bool_byte}
use Rattle.std.proofs.Common.{eqb→eq}
use Rattle.std.specs.Prelude.{T}
use mathlib.Core.List.{List, [], ◌∷◌}
use Prim.Native.Nat.{ℕ, ◌+◌, ◌-◌, ◌*◌, ◌≤◌, ◌<◌, min, max}
use native.Mathlib.Omega.{arith}
use native.Mathlib.Decide.{dec_lt}
use lib.Dec.{lit<, eqb, ltb}
use borrow.Author.Tests.{lt-ltb, le-ltb, le-leb, lt-leb, eq-eqb, ne_eqb}
use Rattle.eb3.specs.Values.{Value, undefined, number, bounded, add, subtract, equal, less, encode, decode}
use Rattle.eb3.specs.Attributes.{apply_in_domain}
use Rattle.expressions.specs.Stores.{largest_number, stored, cell_in, reading_in, row_place, begin_place}
use Rattle.expressions.specs.Answering.{truth, answer}
use Rattle.expressions.specs.Laws.Values.{word_of_value}
use Rattle.expressions.specs.Operands.{sum_word, difference_word, equal_word, less_word}

pub packed : (v left : ℕ) → v < 65536 → left < 65536 → (v + 65536 * left ≡ answer v left) × (v + 65536 * left < 4294967296)
unfolding answer
packed v left h k = (refl, omega arith)

apart : (b : Bool) → b ≡ true → b ≡ false → ⊥
apart b e f = subst T (sym e ∙ f) tt

-- ── words as values ──

pub decode_number : (w : ℕ) → w < 65535 → decode largest_number w ≡ number w
unfolding decode bounded
decode_number w h =
    let l : w ≤ largest_number = omega arith in
    rw (le-leb w largest_number l)

pub decode_mark : (w : ℕ) → 65535 ≤ w → decode largest_number w ≡ undefined
unfolding decode bounded
decode_mark w h =
    let l : largest_number < w = omega arith in
    rw (lt-leb w largest_number l)

-- ── arithmetic ──

abbrev Sum : ℕ → ℕ → ℕ → Type 0
Sum a b r = (r ≡ sum_word (decode largest_number a) (decode largest_number b)) × (r < 65536)

abbrev Difference : ℕ → ℕ → ℕ → Type 0
Difference a b r = (r ≡ difference_word (decode largest_number a) (decode largest_number b)) × (r < 65536)

module _ (a b : ℕ) where
  sum_fits : a + b < 65535 → Sum a b (a + b)
  unfolding encode add bounded
  sum_fits l =
      let h : a < 65535 = omega arith in
      let k : b < 65535 = omega arith in
      let m : a + b ≤ largest_number = omega arith in
      (rw (decode_number a h, decode_number b k, le-leb (a + b) largest_number m), omega arith)

  -- also where an operand is undefined
  sum_over : 65535 ≤ a + b → Sum a b 65535
  unfolding encode add bounded
  sum_over l = go (dec_lt a 65535) (dec_lt b 65535)
    where
      go : Dec (a < 65535) → Dec (b < 65535) → Sum a b 65535
      go (yes h) (yes k) =
          let m : largest_number < a + b = omega arith in
          (rw (decode_number a h, decode_number b k, lt-leb (a + b) largest_number m), lit< tt)
      go (yes h) (no k) =
          let m : 65535 ≤ b = omega arith in
          (rw (decode_number a h, decode_mark b m), lit< tt)
      go (no h) k =
          let m : 65535 ≤ a = omega arith in
          (rw (decode_mark a m), lit< tt)

  pub sum_least : (r : ℕ) → r ≡ min (a + b) 65535 → Sum a b r
  sum_least r e = go (dec_lt (a + b) 65535)
    where
      go : Dec (a + b < 65535) → Sum a b r
      go (yes h) = let k : r ≡ a + b = omega arith in rw k (sum_fits h)
      go (no n) = let h : 65535 ≤ a + b = omega arith in let k : r ≡ 65535 = omega arith in rw k (sum_over h)

  pub difference_fits : a < 65535 → b ≤ a → Difference a b (a - b)
  unfolding encode subtract
  difference_fits h k =
      let l : b < 65535 = omega arith in
      (rw (decode_number a h, decode_number b l, le-leb b a k), omega arith)

  difference_below : a < 65535 → a < b → Difference a b 65535
  unfolding encode subtract
  difference_below h k = go (dec_lt b 65535)
    where
      go : Dec (b < 65535) → Difference a b 65535
      go (yes l) = (rw (decode_number a h, decode_number b l, lt-leb b a k), lit< tt)
      go (no n) =
          let l : 65535 ≤ b = omega arith in
          (rw (decode_number a h, decode_mark b l), lit< tt)

  difference_first : 65535 ≤ a → Difference a b 65535
  unfolding encode subtract
  difference_first h = (rw (decode_mark a h), lit< tt)

  pub difference_none : ((a < 65535) × (a < b)) ⊎ (65535 ≤ a) → Difference a b 65535
  difference_none (inl h) = difference_below h.0 h.1
  difference_none (inr h) = difference_first h

-- ── comparison ──

abbrev Same : ℕ → ℕ → ℕ → Type 0
Same a b r = (r ≡ equal_word (decode largest_number a) (decode largest_number b)) × (r < 65536)

abbrev Below : ℕ → ℕ → ℕ → Type 0
Below a b r = (r ≡ less_word (decode largest_number a) (decode largest_number b)) × (r < 65536)

equal_itself : (v : Value) → truth (equal v v) ≡ 1
unfolding truth equal
equal_itself undefined = refl
equal_itself (number n) = rw (eq-eqb n n refl)

module _ (a b : ℕ) (small_a : a < 65536) (small_b : b < 65536) where
  same_words : a ≡ b → Same a b 1
  same_words e = (sym (equal_itself (decode largest_number a)) ∙ ap (λ w. truth (equal (decode largest_number a) (decode largest_number w))) e, lit< tt)

  other_words : (a ≡ b → ⊥) → Same a b 0
  unfolding truth equal
  other_words n = go (dec_lt a 65535) (dec_lt b 65535)
    where
      go : Dec (a < 65535) → Dec (b < 65535) → Same a b 0
      go (yes h) (yes k) = (rw (decode_number a h, decode_number b k, ne_eqb a b n), lit< tt)
      go (yes h) (no k) =
          let l : 65535 ≤ b = omega arith in
          (rw (decode_number a h, decode_mark b l), lit< tt)
      go (no h) (yes k) =
          let l : 65535 ≤ a = omega arith in
          (rw (decode_mark a l, decode_number b k), lit< tt)
      go (no h) (no k) = absurd (n (omega arith))

  pub equal_byte : (r : ℕ) → r ≡ bool_byte (eqb a b) → Same a b r
  equal_byte r e = go (eqb a b) refl
    where
      go : (t : Bool) → eqb a b ≡ t → Same a b r
      go true f = let k : r ≡ 1 = e ∙ ap bool_byte f in rw k (same_words (eqb→eq a b (subst T (sym f) tt)))
      go false f = let k : r ≡ 0 = e ∙ ap bool_byte f in rw k (other_words (λ p. apart (eqb a b) (eq-eqb a b p) f))

  below_number : a < b → b < 65535 → Below a b 1
  unfolding truth less
  below_number h k =
      let l : a < 65535 = omega arith in
      (rw (decode_number a l, decode_number b k, lt-ltb a b h), lit< tt)

  below_undefined : a < b → 65535 ≤ b → Below a b 0
  unfolding truth less
  below_undefined h k =
      let l : a < 65535 = omega arith in
      (rw (decode_number a l, decode_mark b k), lit< tt)

  not_below : b ≤ a → Below a b 0
  unfolding truth less
  not_below h = go (dec_lt a 65535)
    where
      go : Dec (a < 65535) → Below a b 0
      go (yes l) =
          let k : b < 65535 = omega arith in
          (rw (decode_number a l, decode_number b k, le-ltb a b h), lit< tt)
      go (no l) =
          let k : 65535 ≤ a = omega arith in
          (rw (decode_mark a k), lit< tt)

  -- a test of a, and then of b
  pub less_byte : (r : ℕ) (t : Bool) → r ≡ bool_byte t → ((a < b) × (t ≡ ltb b 65535)) ⊎ ((b ≤ a) × (t ≡ ltb a b)) → Below a b r
  less_byte r t e (inl h) = go (dec_lt b 65535)
    where
      go : Dec (b < 65535) → Below a b r
      go (yes k) = let j : r ≡ 1 = e ∙ ap bool_byte (h.1 ∙ lt-ltb b 65535 k) in rw j (below_number h.0 k)
      go (no n) = let k : 65535 ≤ b = omega arith in let j : r ≡ 0 = e ∙ ap bool_byte (h.1 ∙ le-ltb b 65535 k) in rw j (below_undefined h.0 k)
  less_byte r t e (inr h) = let j : r ≡ 0 = e ∙ ap bool_byte (h.1 ∙ le-ltb a b h.0) in rw j (not_below h.0)

-- ── conditions ──

abbrev Made : (Bool → Bool → Bool) → ℕ → ℕ → ℕ → Type 0
Made g a b r = ((c d : Bool) → a ≡ truth c → b ≡ truth d → r ≡ truth (g c d)) × (r < 65536)

least : (c d : Bool) → min (truth c) (truth d) ≡ truth (c && d)
unfolding truth
least true true = refl
least true false = refl
least false true = refl
least false false = refl

largest : (c d : Bool) → max (truth c) (truth d) ≡ truth (c || d)
unfolding truth
largest true true = refl
largest true false = refl
largest false true = refl
largest false false = refl

module _ (a b r : ℕ) (small_a : a < 65536) where
  pub least_word : r ≡ min a b → Made ◌&&◌ a b r
  least_word e = (λ c d f g. e ∙ (λ i. min (f i) (g i)) ∙ least c d, omega arith)

  pub largest_word : b < 65536 → r ≡ max a b → Made ◌||◌ a b r
  largest_word small_b e = (λ c d f g. e ∙ (λ i. max (f i) (g i)) ∙ largest c d, omega arith)

-- ── the store ──

module _ (M : List ℕ) (at f x n : ℕ) (is_n : n ≡ stored M (row_place f)) where
  pub cell_there : (k r : ℕ) → n < 65536 → x < n → k ≡ stored M (begin_place f) → r ≡ stored M (at + (k + x)) → r < 65536
      → (r ≡ encode 65535 (reading_in M at f (decode largest_number x ∷ []))) × (r < 65536)
  unfolding reading_in apply_in_domain cell_in
  cell_there k r s h is_k e l =
      let m : x < 65535 = omega arith in
      let i : stored M (at + (stored M (begin_place f) + x)) ≡ r = ap (λ j. stored M (at + (j + x))) (sym is_k) ∙ sym e in
      (rw (decode_number x m, ← is_n, lt-ltb x n h, i) (sym (word_of_value r l)), l)

  pub cell_outside : x < 65536 → n ≤ x → (65535 ≡ encode 65535 (reading_in M at f (decode largest_number x ∷ []))) × (65535 < 65536)
  unfolding reading_in apply_in_domain encode
  cell_outside s h = go (dec_lt x 65535)
    where
      go : Dec (x < 65535) → (65535 ≡ encode 65535 (reading_in M at f (decode largest_number x ∷ []))) × (65535 < 65536)
      go (yes l) = (rw (decode_number x l, ← is_n, le-ltb x n h), lit< tt)
      go (no l) =
          let k : 65535 ≤ x = omega arith in
          (rw (decode_mark x k), lit< tt)
