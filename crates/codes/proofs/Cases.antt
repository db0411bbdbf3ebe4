-- The table of codes as src has it, a row of fields for each code, against the rows of numbers that say the same (document 01, "Codes stand before their
-- operands").
use mathlib.Core.Bool.{Bool, true, false}
use mathlib.Core.List.{List, [], ◌∷◌}
use mathlib.Core.Path.{◌≡◌, refl, ap, ◌∙◌}
use Prim.Native.Nat.{ℕ, ◌+◌, ◌*◌, ◌/◌, ◌%◌, ◌^◌, ◌≤◌, ◌<◌}
use lib.Dec.{eqb}
use lib.ListN.{get_or}
use native.Mathlib.Omega.{arith}
use Rattle.std.specs.Prelude.{cond}
use Rattle.eb3.specs.Generic.Lists.{one_of}
use Rattle.codes.specs.declared.Code.{Code}
use Rattle.codes.specs.Table.{words_after, operands_after, moving_code}
use Rattle.codes.specs.Laws.Table.{below, word_row, operand_row, moving_row, words_few, second_word_bit}
use Rattle.codes.specs.Shapes.{more_words}

abbrev together : List ℕ → List ℕ → List ℕ → List Code
together (w ∷ ws) (o ∷ os) (m ∷ ms) = record { words = w; operands = o; moves = eqb m 1 } ∷ together ws os ms
together ws os ms = []

abbrev code : ℕ → Code
code w = get_or (together word_row operand_row moving_row) w (record { words = 0; operands = 0; moves = false })

words_coded : (w : ℕ) → w ≤ 30 → (code w).words ≡ words_after w
unfolding words_after
words_coded w h = below (λ i. (code i).words) words_after 31 tt w (omega arith)

pub operands_coded : (w : ℕ) → w ≤ 30 → (code w).operands ≡ operands_after w
unfolding operands_after
operands_coded w h = below (λ i. (code i).operands) operands_after 31 tt w (omega arith)

pub moving_coded : (w : ℕ) → w ≤ 30 → (code w).moves ≡ moving_code w
unfolding moving_code one_of
moving_coded w h = go (code w).moves (moving_code w) (below (λ i. cond (code i).moves 1 0) (λ i. cond (moving_code i) 1 0) 31 tt w (omega arith))
  where
    go : (a b : Bool) → ◌≡◌ {A = ℕ} (cond a 1 0) (cond b 1 0) → a ≡ b
    go true true e = refl
    go false false e = refl
    go true false e = absurd (let z : ⊥ = omega (arith, e) in z)
    go false true e = absurd (let z : ⊥ = omega (arith, e) in z)

pub words_told : (shape w : ℕ) → w ≤ 30
    → ((code w).words + 2 * (shape / 65536 % 2) / 2 ^ w % 2 ≡ more_words shape w) × ((code w).words + 2 * (shape / 65536 % 2) / 2 ^ w % 2 < 7)
words_told shape w h =
    (ap (λ n. n + 2 * (shape / 65536 % 2) / 2 ^ w % 2) (words_coded w h) ∙ ap (λ n. words_after w + n) (second_word_bit (shape / 65536 % 2) w (omega arith) h), omega (arith, words_coded w h, words_few w h))
