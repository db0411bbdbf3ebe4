-- Laws of sets of labels as numbers (`in_set`, `mask_set`): a mask's four words as one number hold the mask's labels; the number 0 holds none; the bitwise
-- or of two numbers holds the labels of both; and an action outside a set is outside each of its subsets.
-- Document 01, "Blocks and the rule stream": bit j of mask word i is label 16 × i + j; "Moves, in order".
use Rattle.std.specs.Prelude.{◌≡◌, refl, Bool, true, false, ◌||◌, cond, ℕ, zero, suc, ◌+◌, ◌-◌, ◌*◌, ◌/◌, ◌%◌, ◌^◌, ◌≤◌, ◌<◌, T, eqb}
use Rattle.std.proofs.Common.{sym, ◌∙◌, subst, mul_assoc, div-add-mod', eqb→eq, pow_pos, pow-add, shr-shr}
use Rattle.std.proofs.Math.Path.{ap}
use native.Mathlib.Omega.{arith}
use Rattle.std.proofs.Math.Decide.{dec_lt}
use Rattle.std.proofs.Math.Nat.{zero-div, add-mul-div_right}
use Rattle.std.proofs.Math.ListN.{get_or}
use Rattle.std.specs.Int.Bits.{bit_or}
use Rattle.std.proofs.lemmas.Nat.{or_shr, or_mod}
use Rattle.std.proofs.Math.Pow.{high}
use Rattle.eb3.specs.Terms.{Mask, bit}
use Rattle.actions.specs.Codes.{label_in, masked_code}
use Rattle.actions.specs.Sets.{bit_at, in_set, mask_word, mask_set, has_all}

-- ── the bits of a number of two parts ──

split_power : (l : ℕ) → l < 16 → ◌≡◌ {A = ℕ} 65536 (2 * 2 ^ (15 - l) * 2 ^ l)
split_power l h =
    let e : 15 - l + l ≡ 15 = omega arith in
    let f : 2 ^ (15 - l) * 2 ^ l ≡ 32768 = sym (pow-add 2 (15 - l) l) ∙ ap (λ n. 2 ^ n) e in
    sym (mul_assoc 2 (2 ^ (15 - l)) (2 ^ l) ∙ ap (λ n. 2 * n) f)

low_bit : (a b l : ℕ) → l < 16 → (b * 65536 + a) / 2 ^ l % 2 ≡ a / 2 ^ l % 2
low_bit a b l h =
    let e : b * 65536 + a ≡ a + b * (2 * 2 ^ (15 - l)) * 2 ^ l =
    let f : b * 65536 ≡ b * (2 * 2 ^ (15 - l)) * 2 ^ l = ap (λ n. b * n) (split_power l h) ∙ sym (mul_assoc b (2 * 2 ^ (15 - l)) (2 ^ l)) in omega (arith, f) in
    let g : (b * 65536 + a) / 2 ^ l ≡ a / 2 ^ l + b * (2 * 2 ^ (15 - l)) = ap (λ n. n / 2 ^ l) e ∙ add-mul-div_right a (b * (2 * 2 ^ (15 - l))) (pow_pos l) in
    let k : b * (2 * 2 ^ (15 - l)) ≡ 2 * (b * 2 ^ (15 - l)) = even b (2 ^ (15 - l)) in
    ap (λ n. n % 2) (g ∙ ap (λ n. a / 2 ^ l + n) k) ∙ dropped (a / 2 ^ l) (b * 2 ^ (15 - l))
  where
    even : (x y : ℕ) → x * (2 * y) ≡ 2 * (x * y)
    even x y = omega arith

    dropped : (x y : ℕ) → (x + 2 * y) % 2 ≡ x % 2
    dropped x y = omega arith

high_bit : (a b l : ℕ) → a < 65536 → 16 ≤ l → (b * 65536 + a) / 2 ^ l ≡ b / 2 ^ (l - 16)
high_bit a b l h k =
    let e : l ≡ 16 + (l - 16) = omega arith in
    ap (λ n. (b * 65536 + a) / 2 ^ n) e ∙ sym (shr-shr (b * 65536 + a) 16 (l - 16)) ∙ ap (λ n. n / 2 ^ (l - 16)) (high b 16 h)

-- ── the set of a mask ──

word_bit : (w l : ℕ) → l < 16 → w % 65536 / 2 ^ l % 2 ≡ w / 2 ^ l % 2
word_bit w l h = sym (low_bit (w % 65536) (w / 65536) l h) ∙ ap (λ n. n / 2 ^ l % 2) (div-add-mod' w 65536)

-- Bit 16 × i + j of the words is bit j of word i.
at_word : (Δ : Mask) (i l : ℕ) → l / 16 ≡ i → mask_word Δ i / 2 ^ (l % 16) % 2 ≡ get_or Δ (l / 16) 0 / 2 ^ (l % 16) % 2
unfolding mask_word
at_word Δ i l e = ap (λ n. get_or Δ n 0 % 65536 / 2 ^ (l % 16) % 2) (sym e) ∙ word_bit (get_or Δ (l / 16) 0) (l % 16) (omega arith)

word_below : (Δ : Mask) (i : ℕ) → mask_word Δ i < 65536
unfolding mask_word
word_below Δ i = omega arith

module _ (Δ : Mask) (l : ℕ) where
  lowest : (b i : ℕ) → l / 16 ≡ i → (j : ℕ) → j ≡ l % 16 → (b * 65536 + mask_word Δ i) / 2 ^ j % 2 ≡ get_or Δ (l / 16) 0 / 2 ^ (l % 16) % 2
  lowest b i e j f = ap (λ n. (b * 65536 + mask_word Δ i) / 2 ^ n % 2) f ∙ low_bit (mask_word Δ i) b (l % 16) (omega arith) ∙ at_word Δ i l e

  abbrev two : ℕ
  two = mask_word Δ 3 * 65536 + mask_word Δ 2

  abbrev three : ℕ
  three = two * 65536 + mask_word Δ 1

  bits_of : l < 64 → mask_set Δ / 2 ^ l % 2 ≡ get_or Δ (l / 16) 0 / 2 ^ (l % 16) % 2
  unfolding mask_set
  bits_of h = in_first (dec_lt l 16)
    where
      in_third : Dec (l - 32 < 16) → 32 ≤ l → two / 2 ^ (l - 32) % 2 ≡ get_or Δ (l / 16) 0 / 2 ^ (l % 16) % 2
      in_third (yes k) m = lowest (mask_word Δ 3) 2 (omega arith) (l - 32) (omega arith)
      in_third (no k) m =
          let e : l - 32 - 16 ≡ l % 16 = omega arith in
          ap (λ n. n % 2) (high_bit (mask_word Δ 2) (mask_word Δ 3) (l - 32) (word_below Δ 2) (omega arith) ∙ ap (λ n. mask_word Δ 3 / 2 ^ n) e) ∙ at_word Δ 3 l (omega arith)

      in_second : Dec (l - 16 < 16) → 16 ≤ l → three / 2 ^ (l - 16) % 2 ≡ get_or Δ (l / 16) 0 / 2 ^ (l % 16) % 2
      in_second (yes k) m = lowest two 1 (omega arith) (l - 16) (omega arith)
      in_second (no k) m =
          let e : l - 16 - 16 ≡ l - 32 = omega arith in
          ap (λ n. n % 2) (high_bit (mask_word Δ 1) two (l - 16) (word_below Δ 1) (omega arith) ∙ ap (λ n. two / 2 ^ n) e) ∙ in_third (dec_lt (l - 32) 16) (omega arith)

      in_first : Dec (l < 16) → (three * 65536 + mask_word Δ 0) / 2 ^ l % 2 ≡ get_or Δ (l / 16) 0 / 2 ^ (l % 16) % 2
      in_first (yes k) = lowest three 0 (omega arith) l (omega arith)
      in_first (no k) = ap (λ n. n % 2) (high_bit (mask_word Δ 0) three l (word_below Δ 0) (omega arith)) ∙ in_second (dec_lt (l - 16) 16) (omega arith)

pub in_mask_set : (Δ : Mask) (code : ℕ) → in_set (mask_set Δ) code ≡ masked_code Δ code
unfolding in_set masked_code bit label_in
in_mask_set Δ code = ap (λ n. cond (eqb code 0) false (eqb n 1)) (bits_of Δ ((code - 1) % 64) (omega arith))

-- ── no label, and two sets joined ──

either_false : (b : Bool) → cond b false false ≡ false
either_false true = refl
either_false false = refl

pub in_empty : (code : ℕ) → in_set 0 code ≡ false
unfolding in_set
in_empty code = ap (λ n. cond (eqb code 0) false (eqb (n % 2) 1)) (zero-div (2 ^ label_in code)) ∙ either_false (eqb code 0)

digit : (a b : ℕ) → a < 2 → b < 2 → eqb (bit_or a b) 1 ≡ (eqb a 1 || eqb b 1)
digit zero b h k = refl
digit (suc zero) zero h k = refl
digit (suc zero) (suc zero) h k = refl
digit (suc zero) (suc (suc b)) h k = absurd (omega arith)
digit (suc (suc a)) b h k = absurd (omega arith)

bit_either : (x y l : ℕ) → bit_at (bit_or x y) l ≡ (bit_at x l || bit_at y l)
bit_either x y l =
    ap (λ n. eqb (n % 2) 1) (or_shr x y l) ∙ ap (λ n. eqb n 1) (or_mod (x / 2 ^ l) (y / 2 ^ l) 1)
    ∙ digit (x / 2 ^ l % 2) (y / 2 ^ l % 2) (omega arith) (omega arith)

either_in : (b c d : Bool) → cond b false (c || d) ≡ (cond b false c || cond b false d)
either_in true c d = refl
either_in false c d = refl

pub in_either : (x y code : ℕ) → in_set (bit_or x y) code ≡ (in_set x code || in_set y code)
unfolding in_set
in_either x y code =
    ap (cond (eqb code 0) false) (bit_either x y (label_in code)) ∙ either_in (eqb code 0) (bit_at x (label_in code)) (bit_at y (label_in code))

or_false : (b c : Bool) → b ≡ (b || c) → b ≡ false → c ≡ false
or_false true c e f = absurd (subst T f tt)
or_false false c e f = sym e

-- If a set x has all labels of a set y, then an action outside x is outside y.
pub within_set : (x y code : ℕ) → has_all x y ≡ true → in_set x code ≡ false → in_set y code ≡ false
within_set x y code h f =
    let e : bit_or x y ≡ x = eqb→eq (bit_or x y) x (subst T (sym h) tt) in
    or_false (in_set x code) (in_set y code) (ap (λ n. in_set n code) (sym e) ∙ in_either x y code) f
