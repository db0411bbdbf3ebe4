-- Laws of a word in bytes, the low byte first (document 01, "Blocks and the rule stream").
use Rattle.std.specs.Prelude.{◌≡◌, refl, List, [], ◌∷◌, ℕ, zero, suc, ◌+◌, ◌*◌, ◌<◌, get_or, length}
use Rattle.std.proofs.Common.{sym, ap, ◌∙◌, arith}
use Rattle.eb3.specs.Bytes.{words_in}

pub word_at : (B : List ℕ) (i : ℕ) → 2 * i + 1 < length B → get_or (words_in B) i 0 ≡ get_or B (2 * i) 0 + 256 * get_or B (2 * i + 1) 0
unfolding words_in
word_at [] i h = absurd (let z : ⊥ = omega arith in z)
word_at (a ∷ []) i h = absurd (let z : ⊥ = omega arith in z)
word_at (a ∷ b ∷ s) zero h = refl
word_at (a ∷ b ∷ s) (suc i) h =
    let p : 2 * suc i ≡ suc (suc (2 * i)) = omega arith in
    let q : 2 * suc i + 1 ≡ suc (suc (2 * i + 1)) = omega arith in
    word_at s i (omega arith)
    ∙ sym (ap (λ k. get_or (a ∷ b ∷ s) k 0 + 256 * get_or (a ∷ b ∷ s) (2 * suc i + 1) 0) p ∙ ap (λ k. get_or s (2 * i) 0 + 256 * get_or (a ∷ b ∷ s) k 0) q)

pub loaded_word : (B : List ℕ) (i a b : ℕ) → 2 * i + 1 < length B → a ≡ get_or B (2 * i) 0 → b ≡ get_or B (2 * i + 1) 0 → a + 256 * b ≡ get_or (words_in B) i 0
loaded_word B i a b h e f = (λ j. e j + 256 * f j) ∙ sym (word_at B i h)
