-- Block sums are sums modulo 255: the remainder may be deferred to the end (`sums_deferred`).
use Rattle.std.specs.Prelude.{◌≡◌, refl, List, [], ◌∷◌, ℕ, ◌+◌, ◌%◌}
use Rattle.std.proofs.Common.{ap, sym, ◌∙◌, arith}
use Rattle.eb3.specs.Blocks.{plain_sums, Sums, add_byte, sums_from}

abbrev pub reduced : Sums → Sums
reduced s = record { a = s.a % 255; b = s.b % 255 }

left_reduced : (m n : ℕ) → (m % 255 + n) % 255 ≡ (m + n) % 255
left_reduced m n = omega arith

right_reduced : (m n : ℕ) → (m + n % 255) % 255 ≡ (m + n) % 255
right_reduced m n = omega arith

add_reduced : (a b byte : ℕ) → add_byte (record { a = a % 255; b = b % 255 }) byte ≡ record { a = (a + byte) % 255; b = (b + (a + byte)) % 255 }
add_reduced a b byte = λ i. record {
  a = left_reduced a byte i;
  b = (left_reduced b ((a % 255 + byte) % 255) ∙ (right_reduced b (a % 255 + byte) ∙ (right b))) i;
}
  where
    right : (b : ℕ) → (b + (a % 255 + byte)) % 255 ≡ (b + (a + byte)) % 255
    right b = sym (right_reduced b (a % 255 + byte)) ∙ (ap (λ n. (b + n) % 255) (left_reduced a byte) ∙ right_reduced b (a + byte))

pub sums_deferred : (s : Sums) (bytes : List ℕ) → sums_from (reduced s) bytes ≡ reduced (plain_sums s bytes)
unfolding sums_from plain_sums
sums_deferred s [] = refl
sums_deferred s (byte ∷ bytes) = ap (λ (x : Sums). sums_from x bytes) (add_reduced s.a s.b byte) ∙ sums_deferred (record { a = s.a + byte; b = s.b + (s.a + byte) }) bytes
