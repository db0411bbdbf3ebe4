-- Numbers of 32 bits in a table's bytes (document 02, K1): read from four bytes (`number_there`), and put one after another (`number_written`).
use Rattle.std.specs.Prelude.{◌≡◌, ℕ, zero, suc, ◌+◌, ◌*◌, ◌/◌, ◌%◌, ◌<◌, ◌≤◌, List, [], ◌∷◌, ◌++◌, length, set, slice_index, slice_index_or, slice_set, refl}
use Rattle.std.proofs.Common.{arith, sym, ap, subst, ◌∙◌, append_assoc, length-append, length-set}
use borrow.Rule.Slice.PartMut.{put_mid}
use Rattle.std.specs.Int.{w32, to_le_bytes}
use Rattle.eb3.specs.Bytes.{words_in, written, doubles_in, double_words}
use Rattle.eb3.proofs.Laws.Readers.{double_length}
use Rattle.writing.specs.Laws.Wrote.{written_next}
use Rattle.readers.specs.Placing.{put_word, put_number}

pub number_there : (b : List ℕ) (i : ℕ) → 4 * i + 4 ≤ length b
    → slice_index (doubles_in (words_in b)) i ≡ slice_index b (4 * i) + 256 * slice_index b (4 * i + 1) + 65536 * slice_index b (4 * i + 2) + 16777216 * slice_index b (4 * i + 3)
unfolding words_in doubles_in
number_there [] i l = let z : ⊥ = omega (arith, l) in absurd z
number_there (a ∷ []) i l = let z : ⊥ = omega (arith, l) in absurd z
number_there (a ∷ b ∷ []) i l = let z : ⊥ = omega (arith, l) in absurd z
number_there (a ∷ b ∷ c ∷ []) i l = let z : ⊥ = omega (arith, l) in absurd z
number_there (a ∷ b ∷ c ∷ d ∷ s) zero l = omega arith
number_there (a ∷ b ∷ c ∷ d ∷ s) (suc i) l =
    let room : 4 * i + 4 ≤ length s = omega (arith, l) in
    let p₀ : suc (suc (suc (suc (4 * i)))) ≡ 4 * suc i = omega arith in
    let p₁ : suc (suc (suc (suc (4 * i + 1)))) ≡ 4 * suc i + 1 = omega arith in
    let p₂ : suc (suc (suc (suc (4 * i + 2)))) ≡ 4 * suc i + 2 = omega arith in
    let p₃ : suc (suc (suc (suc (4 * i + 3)))) ≡ 4 * suc i + 3 = omega arith in
    let q : ℕ → ℕ = λ n. slice_index_or (a ∷ b ∷ c ∷ d ∷ s) n 0 in
    number_there s i room ∙ (λ j. q (p₀ j) + 256 * q (p₁ j) + 65536 * q (p₂ j) + 16777216 * q (p₃ j))

-- Numbers of bytes have 32 bits.
pub numbers_fit : (b : List ℕ) → ((i : ℕ) → slice_index b i < 256) → (i : ℕ) → slice_index (doubles_in (words_in b)) i < 4294967296
unfolding words_in doubles_in
numbers_fit [] h i = omega arith
numbers_fit (a ∷ []) h i = omega arith
numbers_fit (a ∷ b ∷ []) h i = omega arith
numbers_fit (a ∷ b ∷ c ∷ []) h i = omega arith
numbers_fit (a ∷ b ∷ c ∷ d ∷ s) h zero = let p : a < 256 = h 0 in let q : b < 256 = h 1 in let r : c < 256 = h 2 in let t : d < 256 = h 3 in omega (arith, p, q, r, t)
numbers_fit (a ∷ b ∷ c ∷ d ∷ s) h (suc i) = numbers_fit s (λ j. h (suc (suc (suc (suc j))))) i

-- ── written ──

-- Four bytes put together are put one by one.
put_together : (b : List ℕ) (at x₀ x₁ x₂ x₃ : ℕ) → at + 4 ≤ length b
    → put_mid at 4 b (x₀ ∷ x₁ ∷ x₂ ∷ x₃ ∷ []) ≡ slice_set (slice_set (slice_set (slice_set b at x₀) (at + 1) x₁) (at + 2) x₂) (at + 3) x₃
put_together [] at x₀ x₁ x₂ x₃ l = let z : ⊥ = omega (arith, l) in absurd z
put_together (a ∷ []) zero x₀ x₁ x₂ x₃ l = let z : ⊥ = omega (arith, l) in absurd z
put_together (a ∷ b ∷ []) zero x₀ x₁ x₂ x₃ l = let z : ⊥ = omega (arith, l) in absurd z
put_together (a ∷ b ∷ c ∷ []) zero x₀ x₁ x₂ x₃ l = let z : ⊥ = omega (arith, l) in absurd z
put_together (a ∷ b ∷ c ∷ d ∷ s) zero x₀ x₁ x₂ x₃ l = refl
put_together (a ∷ s) (suc at) x₀ x₁ x₂ x₃ l =
    let e₁ : suc (at + 1) ≡ suc at + 1 = omega arith in
    let e₂ : suc (at + 2) ≡ suc at + 2 = omega arith in
    let e₃ : suc (at + 3) ≡ suc at + 3 = omega arith in
    ap (λ (t : List ℕ). a ∷ t) (put_together s at x₀ x₁ x₂ x₃ (omega (arith, l)))
    ∙ (λ j. slice_set (slice_set (slice_set (slice_set (a ∷ s) (suc at) x₀) (e₁ j) x₁) (e₂ j) x₂) (e₃ j) x₃)

-- They are the two words of a number.
pub number_put : (b : List ℕ) (i n k : ℕ) (bs : List ℕ) → 4 * i + 4 ≤ length b → k ≡ 4 → bs ≡ to_le_bytes w32 n → put_mid (4 * i) k b bs ≡ put_number b i n
unfolding put_number put_word
number_put b i n k bs l e f =
    let p₀ : 4 * i ≡ 2 * (2 * i) = omega arith in
    let p₁ : 4 * i + 1 ≡ 2 * (2 * i) + 1 = omega arith in
    let p₂ : 4 * i + 2 ≡ 2 * (2 * i + 1) = omega arith in
    let p₃ : 4 * i + 3 ≡ 2 * (2 * i + 1) + 1 = omega arith in
    let v₀ : n % 256 ≡ n % 65536 % 256 = omega arith in
    let v₁ : n / 256 % 256 ≡ n % 65536 / 256 % 256 = omega arith in
    let v₃ : n / 16777216 % 256 ≡ n / 65536 / 256 % 256 = omega arith in
    (λ j. put_mid (4 * i) (e j) b (f j))
    ∙ (put_together b (4 * i) (n % 256) (n / 256 % 256) (n / 65536 % 256) (n / 16777216 % 256) l
    ∙ (λ j. slice_set (slice_set (slice_set (slice_set b (p₀ j) (v₀ j)) (p₁ j) (v₁ j)) (p₂ j) (n / 65536 % 256)) (p₃ j) (v₃ j)))

pub put_length : (b : List ℕ) (i n : ℕ) → length (put_number b i n) ≡ length b
unfolding put_number put_word
put_length b i n = length-set _ _ _ ∙ (length-set _ _ _ ∙ (length-set _ _ _ ∙ length-set _ _ _))

double_append : (ms ns : List ℕ) → double_words (ms ++ ns) ≡ double_words ms ++ double_words ns
unfolding double_words
double_append [] ns = refl
double_append (m ∷ ms) ns = ap (λ (ws : List ℕ). m % 65536 ∷ m / 65536 ∷ ws) (double_append ms ns)

word_written : (ws b : List ℕ) (i w : ℕ) → i ≡ length ws → 2 * i + 2 ≤ length b → put_word (written ws b) i w ≡ written (ws ++ (w ∷ [])) b
unfolding put_word
word_written ws b i w e room =
    ap (λ (k : ℕ). set (slice_set (written ws b) (2 * k) (w % 256)) (2 * k + 1) (w / 256 % 256)) e ∙ written_next ws b (subst (λ (k : ℕ). 2 * k + 2 ≤ length b) e room) w

-- One number more at a table's front.
pub number_written : (ns b : List ℕ) (i n : ℕ) → i ≡ length ns → 4 * i + 4 ≤ length b → put_number (written (double_words ns) b) i n ≡ written (double_words (ns ++ (n ∷ []))) b
unfolding put_number double_words
number_written ns b i n e room =
    let ws = double_words ns in
    let at : 2 * i ≡ length ws = omega (arith, e, double_length ns) in
    let next : 2 * i + 1 ≡ length (ws ++ (n % 65536 ∷ [])) = omega (arith, e, double_length ns, length-append ws (n % 65536 ∷ [])) in
    let room₀ : 2 * (2 * i) + 2 ≤ length b = omega (arith, room) in
    let room₁ : 2 * (2 * i + 1) + 2 ≤ length b = omega (arith, room) in
    ap (λ (x : List ℕ). put_word x (2 * i + 1) (n / 65536)) (word_written ws b (2 * i) (n % 65536) at room₀)
    ∙ (word_written (ws ++ (n % 65536 ∷ [])) b (2 * i + 1) (n / 65536) next room₁
    ∙ ap (λ (us : List ℕ). written us b) (append_assoc ws (n % 65536 ∷ []) (n / 65536 ∷ []) ∙ sym (double_append ns (n ∷ []))))
