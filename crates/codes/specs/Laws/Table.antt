-- Laws of the table of codes: its columns are the bits of numbers (one bit for each code that one word follows, one for the code that four words follow, two
-- for each code's operands) and rows of numbers (document 01, "Values and conditions", "Blocks and the rule stream").
use Rattle.std.specs.Prelude.{◌≡◌, Bool, true, false, ◌&&◌, cond, List, [], ◌∷◌, get_or, ℕ, zero, suc, ◌+◌, ◌*◌, ◌/◌, ◌%◌, ◌^◌, ◌≤◌, ◌<◌, min, T, eqb}
use Rattle.std.proofs.Common.{sym, ap, ◌∙◌, arith, eqb→eq, eq-eqb, ne_eqb}
use Rattle.std.proofs.Math.Decide.{ℕ_discrete}
use Rattle.eb3.specs.Generic.Booleans.{T_fst, T_snd}
use Rattle.eb3.specs.Generic.Lists.{one_of}
use Rattle.eb3.specs.Reading.{pick}
use Rattle.codes.specs.Table.{words_after, operands_after, moving_code}

-- Whether two functions are equal at each number below n.
abbrev pub alike : (ℕ → ℕ) → (ℕ → ℕ) → ℕ → Bool
alike f g zero = true
alike f g (suc n) = eqb (f n) (g n) && alike f g n

pub below : (f g : ℕ → ℕ) (n : ℕ) → T (alike f g n) → (i : ℕ) → i < n → f i ≡ g i
below f g zero t i l = absurd (let z : ⊥ = omega arith in z)
below f g (suc n) t i l = go (ℕ_discrete i n) (below f g n (T_snd (eqb (f n) (g n)) (alike f g n) t) i)
  where
    go : Dec (i ≡ n) → (i < n → f i ≡ g i) → f i ≡ g i
    go (yes e) h = ap f e ∙ eqb→eq (f n) (g n) (T_fst (eqb (f n) (g n)) (alike f g n) t) ∙ sym (ap g e)
    go (no k) h = h (omega arith)

pub operands_bits : (c : ℕ) → c ≤ 30 → 11716395933523584 / 2 ^ (2 * c) % 4 ≡ operands_after c
unfolding operands_after
operands_bits c h = below (λ i. 11716395933523584 / 2 ^ (2 * i) % 4) operands_after 31 tt c (omega arith)

pub words_bits : (c : ℕ) → c ≤ 30 → 2097350 / 2 ^ c % 2 + 4 * (33554432 / 2 ^ c % 2) ≡ words_after c
unfolding words_after
words_bits c h = below (λ i. 2097350 / 2 ^ i % 2 + 4 * (33554432 / 2 ^ i % 2)) words_after 31 tt c (omega arith)

-- A constant's second word, b of them, as bit 1 of a number.
pub second_word_bit : (b c : ℕ) → b ≤ 1 → c ≤ 30 → 2 * b / 2 ^ c % 2 ≡ pick (eqb c 1) b 0
second_word_bit zero c l h = below (λ i. 0 / 2 ^ i % 2) (λ i. pick (eqb i 1) 0 0) 31 tt c (omega arith)
second_word_bit (suc zero) c l h = below (λ i. 2 / 2 ^ i % 2) (λ i. pick (eqb i 1) 1 0) 31 tt c (omega arith)
second_word_bit (suc (suc b)) c l h = absurd (let z : ⊥ = omega arith in z)

pub moving_bits : (c : ℕ) → c ≤ 30 → eqb (53477376 / 2 ^ c % 2) 1 ≡ moving_code c
unfolding moving_code one_of
moving_bits c h = go (moving_code c) (below (λ i. 53477376 / 2 ^ i % 2) (λ i. cond (moving_code i) 1 0) 31 tt c (omega arith))
  where
    go : (b : Bool) → 53477376 / 2 ^ c % 2 ≡ cond b 1 0 → eqb (53477376 / 2 ^ c % 2) 1 ≡ b
    go true e = eq-eqb (53477376 / 2 ^ c % 2) 1 e
    go false e = ne_eqb (53477376 / 2 ^ c % 2) 1 (λ f. let z : ⊥ = omega (arith, e, f) in z)

-- At most one word comes between an expression's code and its operands.
pub expression_word : (c : ℕ) → c ≤ 13 → words_after c ≤ 1
unfolding words_after
expression_word c h = let e : words_after c ≡ min (words_after c) 1 = below words_after (λ i. min (words_after i) 1) 14 tt c (omega arith) in omega (arith, e)

-- ── the same as rows of numbers, one for each code ──

abbrev pub operand_row : List ℕ
operand_row = (0 ∷ 0 ∷ 0 ∷ 2 ∷ 2 ∷ 3 ∷ 1 ∷ 1 ∷ 2 ∷ 2 ∷ 2 ∷ 2 ∷ 1 ∷ 0 ∷ 0 ∷ 0 ∷ 0 ∷ 0 ∷ 0 ∷ 0 ∷ 0 ∷ 0 ∷ 2 ∷ 2 ∷ 1 ∷ 2 ∷ 2 ∷ 0 ∷ 0 ∷ 0 ∷ 0 ∷ [])

abbrev pub word_row : List ℕ
word_row = (0 ∷ 1 ∷ 1 ∷ 0 ∷ 0 ∷ 0 ∷ 1 ∷ 1 ∷ 0 ∷ 0 ∷ 0 ∷ 0 ∷ 0 ∷ 0 ∷ 0 ∷ 0 ∷ 0 ∷ 0 ∷ 0 ∷ 0 ∷ 0 ∷ 1 ∷ 0 ∷ 0 ∷ 0 ∷ 4 ∷ 0 ∷ 0 ∷ 0 ∷ 0 ∷ 0 ∷ [])

abbrev pub moving_row : List ℕ
moving_row = (0 ∷ 0 ∷ 0 ∷ 0 ∷ 0 ∷ 0 ∷ 0 ∷ 0 ∷ 0 ∷ 0 ∷ 0 ∷ 0 ∷ 0 ∷ 0 ∷ 0 ∷ 0 ∷ 0 ∷ 0 ∷ 0 ∷ 0 ∷ 1 ∷ 1 ∷ 0 ∷ 0 ∷ 1 ∷ 1 ∷ 0 ∷ 0 ∷ 0 ∷ 0 ∷ 0 ∷ [])

pub operands_listed : (c : ℕ) → c ≤ 30 → get_or operand_row c 0 ≡ operands_after c
unfolding operands_after
operands_listed c h = below (λ i. get_or operand_row i 0) operands_after 31 tt c (omega arith)

pub operands_few : (c : ℕ) → c ≤ 30 → operands_after c ≤ 3
unfolding operands_after
operands_few c h = let e : operands_after c ≡ min (operands_after c) 3 = below operands_after (λ i. min (operands_after i) 3) 31 tt c (omega arith) in omega (arith, e)

pub words_listed : (c : ℕ) → c ≤ 30 → get_or word_row c 0 ≡ words_after c
unfolding words_after
words_listed c h = below (λ i. get_or word_row i 0) words_after 31 tt c (omega arith)

pub words_few : (c : ℕ) → c ≤ 30 → words_after c ≤ 4
unfolding words_after
words_few c h = let e : words_after c ≡ min (words_after c) 4 = below words_after (λ i. min (words_after i) 4) 31 tt c (omega arith) in omega (arith, e)

pub moving_listed : (c : ℕ) → c ≤ 30 → eqb (get_or moving_row c 0) 1 ≡ moving_code c
unfolding moving_code one_of
moving_listed c h = go (moving_code c) (below (λ i. get_or moving_row i 0) (λ i. cond (moving_code i) 1 0) 31 tt c (omega arith))
  where
    go : (b : Bool) → get_or moving_row c 0 ≡ cond b 1 0 → eqb (get_or moving_row c 0) 1 ≡ b
    go true e = eq-eqb (get_or moving_row c 0) 1 e
    go false e = ne_eqb (get_or moving_row c 0) 1 (λ f. let z : ⊥ = omega (arith, e, f) in z)
