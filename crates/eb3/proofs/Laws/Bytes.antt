-- Words written into a buffer are read back, and the rest of the buffer is kept.
use Rattle.std.specs.Prelude.{◌≡◌, refl, List, [], ◌∷◌, ◌++◌, ℕ, ◌+◌, ◌*◌, ◌/◌, ◌%◌, ◌≤◌, ◌<◌, length, take, drop}
use Rattle.std.proofs.Common.{ap, sym, ◌∙◌, append_assoc, append-nil, arith, length-append, length-drop, take_at}
use Rattle.eb3.specs.Bytes.{words_in, bytes_of, word_count, written}
use Rattle.eb3.proofs.Laws.Spelling.{Small}

pub bytes_length : (ws : List ℕ) → length (bytes_of ws) ≡ 2 * length ws
unfolding bytes_of
bytes_length [] = refl
bytes_length (w ∷ ws) = omega (arith, bytes_length ws)

pub bytes_append : (us vs : List ℕ) → bytes_of (us ++ vs) ≡ bytes_of us ++ bytes_of vs
unfolding bytes_of
bytes_append [] vs = refl
bytes_append (u ∷ us) vs = ap (λ s. u % 256 ∷ u / 256 % 256 ∷ s) (bytes_append us vs)

-- A buffer has as many words as half its bytes.
pub words_counted : (s : List ℕ) → length (words_in s) ≡ word_count s
unfolding words_in
words_counted [] = refl
words_counted (a ∷ []) = refl
words_counted (a ∷ b ∷ s) = omega (arith, words_counted s)

pub read_back : (ws rest : List ℕ) → Small ws → words_in (bytes_of ws ++ rest) ≡ ws ++ words_in rest
unfolding words_in bytes_of
read_back [] rest h = refl
read_back (w ∷ ws) rest h =
    let l : w < 65536 = h.0 in let e : w % 256 + 256 * (w / 256 % 256) ≡ w = omega arith in
    λ i. e i ∷ read_back ws rest h.1 i

pub bytes_back : (ws : List ℕ) → Small ws → words_in (bytes_of ws) ≡ ws
unfolding words_in
bytes_back ws h = ap words_in (sym (append-nil (bytes_of ws))) ∙ (read_back ws [] h ∙ append-nil ws)

pub written_length : (ws s : List ℕ) → length ws ≤ word_count s → length (written ws s) ≡ length s
unfolding written
written_length ws s h = omega (arith, length-append (bytes_of ws) (drop (2 * length ws) s), bytes_length ws, length-drop (2 * length ws) s)

pub written_words : (ws s : List ℕ) → Small ws → words_in (written ws s) ≡ ws ++ words_in (drop (2 * length ws) s)
unfolding written
written_words ws s h = read_back ws (drop (2 * length ws) s) h

-- A front part of what was written, cut off.
pub written_cut : (us vs s : List ℕ) → take (2 * length us) (written (us ++ vs) s) ≡ bytes_of us
unfolding written
written_cut us vs s =
    ap (λ x. take (2 * length us) (x ++ drop (2 * length (us ++ vs)) s)) (bytes_append us vs)
    ∙ (ap (take (2 * length us)) (append_assoc (bytes_of us) (bytes_of vs) (drop (2 * length (us ++ vs)) s))
    ∙ take_at (bytes_of us) (bytes_of vs ++ drop (2 * length (us ++ vs)) s) (2 * length us) (bytes_length us))
