-- The test of a list's readers, one after another (document 02, K1, refusal 13).
use Rattle.std.specs.Prelude.{◌≡◌, ℕ, suc, ◌+◌, ◌*◌, ◌/◌, ◌%◌, ◌<◌, ◌≤◌, Bool, true, false, ◌&&◌, List, [], ◌∷◌, length, drop, ◌≢◌, slice_index, refl}
use Rattle.std.proofs.Common.{arith, sym, ap, ◌∙◌, length-drop, drop-cons, le-leb}
use Rattle.std.proofs.lemmas.Bool.{lt-leb}
use Rattle.eb3.specs.Bytes.{words_in}
use Rattle.eb3.proofs.Laws.Bytes.{words_counted}
use Rattle.eb3.specs.Readers.{reader?, all_read, lets_through}

-- While the first i readers are right, the answer is that of what comes after them.
abbrev pub ReadersTo : List ℕ → ℕ → Type 0
ReadersTo list i = all_read (words_in list) ≡ all_read (drop (2 * i) (words_in list))

-- A number and its reader come first.
pair_front : (ws : List ℕ) (i : ℕ) → 2 * i + 1 < length ws → drop (2 * i) ws ≡ slice_index ws (2 * i) ∷ slice_index ws (2 * i + 1) ∷ drop (2 * (i + 1)) ws
pair_front ws i l =
    let a : 2 * i < length ws = omega (arith, l) in
    let s₁ : suc (2 * i) ≡ 2 * i + 1 = omega arith in
    let s₂ : suc (2 * i + 1) ≡ 2 * (i + 1) = omega arith in
    drop-cons ws (2 * i) 0 a ∙ ap (λ (u : List ℕ). slice_index ws (2 * i) ∷ u) (ap (λ (n : ℕ). drop n ws) s₁ ∙ (drop-cons ws (2 * i + 1) 0 l ∙ ap (λ (n : ℕ). slice_index ws (2 * i + 1) ∷ drop n ws) s₂))

read_front : (ws : List ℕ) (i : ℕ) → 2 * i + 1 < length ws → all_read (drop (2 * i) ws) ≡ (reader? (slice_index ws (2 * i + 1)) && all_read (drop (2 * (i + 1)) ws))
unfolding all_read
read_front ws i l = ap all_read (pair_front ws i l)

pub readers_next : (list : List ℕ) (i r : ℕ) (ok : Bool) → 4 * i + 4 ≤ length list → ReadersTo list i → r ≡ slice_index (words_in list) (2 * i + 1) → ok ≡ reader? r → ok ≡ true → ReadersTo list (i + 1)
readers_next list i r ok l e f g h =
    let inside : 2 * i + 1 < length (words_in list) = omega (arith, words_counted list, l) in
    e ∙ (read_front (words_in list) i inside ∙ ap (λ b. b && all_read (drop (2 * (i + 1)) (words_in list))) (ap reader? (sym f) ∙ (sym g ∙ h)))

pub readers_fail : (list : List ℕ) (i r : ℕ) (ok : Bool) → 4 * i + 4 ≤ length list → ReadersTo list i → r ≡ slice_index (words_in list) (2 * i + 1) → ok ≡ reader? r → ok ≡ false → false ≡ all_read (words_in list)
readers_fail list i r ok l e f g h =
    let inside : 2 * i + 1 < length (words_in list) = omega (arith, words_counted list, l) in
    sym (e ∙ (read_front (words_in list) i inside ∙ ap (λ b. b && all_read (drop (2 * (i + 1)) (words_in list))) (ap reader? (sym f) ∙ (sym g ∙ h))))

never : (b : Bool) → (b && false) ≡ false
never true = refl
never false = refl

always : (b : Bool) → (b && true) ≡ b
always true = refl
always false = refl

-- A reader is missing where the words are odd in number.
odd_fails : (ws : List ℕ) → length ws % 2 ≡ 1 → all_read ws ≡ false
unfolding all_read
odd_fails [] o = let z : ⊥ = omega (arith, o) in absurd z
odd_fails (k ∷ []) o = refl
odd_fails (k ∷ r ∷ ws) o = let less : length ws % 2 ≡ 1 = omega (arith, o) in ap (λ b. reader? r && b) (odd_fails ws less) ∙ never (reader? r)

pub readers_odd : (list : List ℕ) → (length list / 2 % 2 ≢ 0) → false ≡ all_read (words_in list)
readers_odd list n = sym (odd_fails (words_in list) (let o : length (words_in list) % 2 ≡ 1 = omega (arith, words_counted list, n) in o))

nothing_left : (ws : List ℕ) → length ws ≡ 0 → true ≡ all_read ws
unfolding all_read
nothing_left [] e = refl
nothing_left (w ∷ ws) e = let z : ⊥ = omega (arith, e) in absurd z

pub readers_end : (list : List ℕ) (i : ℕ) → length list / 2 % 2 ≡ 0 → ReadersTo list i → i ≡ length list / 4 → true ≡ all_read (words_in list)
readers_end list i even e l =
    nothing_left (drop (2 * i) (words_in list)) (let n : length (drop (2 * i) (words_in list)) ≡ 0 = omega (arith, length-drop (2 * i) (words_in list), words_counted list, even, l) in n) ∙ sym e

-- ── the table's records besides ──

pub records_short : (list table : List ℕ) → length table / 12 < 32 → false ≡ lets_through list table
unfolding lets_through
records_short list table l = sym (ap (λ b. all_read (words_in list) && b) (lt-leb 32 (length table / 12) l) ∙ never (all_read (words_in list)))

pub records_there : (list table : List ℕ) (b : Bool) → 32 ≤ length table / 12 → b ≡ all_read (words_in list) → b ≡ lets_through list table
unfolding lets_through
records_there list table b l e = e ∙ sym (ap (λ c. all_read (words_in list) && c) (le-leb 32 (length table / 12) l) ∙ always (all_read (words_in list)))
