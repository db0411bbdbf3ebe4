-- The contents of blocks as words, word by word and block by block (document 01, "Blocks and the rule stream"; refusals 1 to 3).
use mathlib.Core.Path.{◌≡◌, refl, ap, sym, ◌∙◌}
use mathlib.Core.List.{List, [], ◌∷◌, ◌++◌, append_assoc, append-nil}
use Prim.Native.Nat.{ℕ, zero, suc, ◌+◌, ◌-◌, ◌*◌, ◌/◌, ◌≤◌, ◌<◌}
use native.Mathlib.Numerals.{add-one}
use native.Mathlib.Omega.{arith}
use lib.ListN.{length, take, drop, get_or, set, length-append, length-take, length-drop, take-append-drop, drop_of_length-le}
use lib.Seq.{drop-cons, drop-drop, take-suc-set, take_all, drop_at, take_at}
use borrow.Rule.Slice.PartMut.{put_mid}
use Rattle.std.proofs.lemmas.List.{drop-take}
use Rattle.eb3.specs.Bytes.{words_in}
use Rattle.eb3.proofs.Laws.Bytes.{words_counted}
use Rattle.eb3.specs.Blocks.{contents}

word_next : (s : List ℕ) (j : ℕ) → j + 1 < length s → words_in (drop j s) ≡ (get_or s j 0 + 256 * get_or s (j + 1) 0) ∷ words_in (drop (j + 2) s)
unfolding words_in
word_next s j h =
    let e : suc j ≡ j + 1 = omega arith in let f : suc (j + 1) ≡ j + 2 = omega arith in let l : j < length s = omega arith in
    ap words_in (drop-cons s j 0 l ∙ ap (λ t. get_or s j 0 ∷ t) (ap (λ m. drop m s) e ∙ drop-cons s (j + 1) 0 h ∙ ap (λ m. get_or s (j + 1) 0 ∷ drop m s) f))

-- A loop that stores a word at each i, with `x` for what it is to find; `m` is the length that the words have all the time.
module _ (x s ws : List ℕ) (m i : ℕ) (e : length s ≡ 2 * m) (f : length ws ≡ m) where
  pub decode_next : (w : ℕ) → i < length ws → w ≡ get_or s (2 * i) 0 + 256 * get_or s (2 * i + 1) 0
      → take i ws ++ words_in (drop (2 * i) s) ≡ x → take (i + 1) (set ws i w) ++ words_in (drop (2 * (i + 1)) s) ≡ x
  decode_next w h p k =
      let l : 2 * i + 1 < length s = omega arith in let g : 2 * (i + 1) ≡ 2 * i + 2 = omega arith in
      rw (g, add-one i, take-suc-set ws i w h, append_assoc, p) (rw (word_next s (2 * i) l) at k)

  pub decode_end : length ws ≤ i → take i ws ++ words_in (drop (2 * i) s) ≡ x → ws ≡ x
  unfolding words_in
  decode_end h k =
      let l : length s ≤ 2 * i = omega arith in rw (take_all i ws h, drop_of_length-le s l, append-nil) at k

words_append : (m : ℕ) (xs ys : List ℕ) → length xs ≡ 2 * m → words_in (xs ++ ys) ≡ words_in xs ++ words_in ys
unfolding words_in
words_append m [] ys e = refl
words_append m (x ∷ []) ys e = let z : ⊥ = omega arith in absurd z
words_append zero (x ∷ y ∷ xs) ys e = let z : ⊥ = omega arith in absurd z
words_append (suc m) (x ∷ y ∷ xs) ys e = ap (λ t. (x + 256 * y) ∷ t) (words_append m xs ys (omega arith))

pub one_content : (m : ℕ) (s : List ℕ) → 1 ≤ m → contents m s ≡ drop 4 (take 512 s) ++ contents (m - 1) (drop 512 s)
unfolding contents
one_content zero s h = let z : ⊥ = omega arith in absurd z
one_content (suc m) s h = let f : m ≡ suc m - 1 = omega arith in ap (λ m. drop 4 (take 512 s) ++ contents m (drop 512 s)) f

-- Block i's words, and those of the blocks after it.
next_content : (s : List ℕ) (n i : ℕ) → i < n → length s ≡ 512 * n
    → words_in (contents (n - i) (drop (512 * i) s)) ≡ words_in (take 508 (drop (512 * i + 4) s)) ++ words_in (contents (n - (i + 1)) (drop (512 * (i + 1)) s))
next_content s n i h e =
    let l : 1 ≤ n - i = omega arith in let f : n - i - 1 ≡ n - (i + 1) = omega arith in let g : 512 * i + 512 ≡ 512 * (i + 1) = omega arith in
    let m : length (take 508 (drop (512 * i + 4) s)) ≡ 2 * 254 = simp (length-take, length-drop) (omega arith) in
    ap words_in (one_content (n - i) (drop (512 * i) s) l)
    ∙ (rw (drop-take 4 508 (drop (512 * i) s), drop-drop 4 (512 * i) s, drop-drop 512 (512 * i) s, f, g) (words_append 254 (take 508 (drop (512 * i + 4) s)) (contents (n - (i + 1)) (drop (512 * (i + 1)) s)) m))

-- A loop that stores a block's words at each i, with `x` for what it is to find before what `ws₀` has.
module _ (x s ws₀ ws : List ℕ) (n i : ℕ) (whole : length s ≡ 512 * n) (room : 254 * n ≤ length ws₀) (same : length ws ≡ length ws₀)
    (found : take (254 * i) ws ++ words_in (contents (n - i) (drop (512 * i) s)) ≡ x) (behind : drop (254 * i) ws ≡ drop (254 * i) ws₀) where
  module _ (h : i < n) (ys : List ℕ) (got : ys ≡ words_in (take (512 * i + 512 - (512 * i + 4)) (drop (512 * i + 4) s))) where
    abbrev put : List ℕ
    put = put_mid (254 * i) (254 * i + 254 - 254 * i) ws ys

    block_words : ys ≡ words_in (take 508 (drop (512 * i + 4) s))
    block_words = let e : 512 * i + 512 - (512 * i + 4) ≡ 508 = omega arith in rw e at got

    front : length (take (254 * i) ws ++ ys) ≡ 254 * (i + 1)
    front =
        let m : length (words_in (take 508 (drop (512 * i + 4) s))) ≡ 254 = words_counted _ ∙ simp (length-take, length-drop) (omega arith) in
        simp (length-append, length-take) (omega (arith, ap length block_words))

    pub join_more : take (254 * (i + 1)) put ++ words_in (contents (n - (i + 1)) (drop (512 * (i + 1)) s)) ≡ x
    join_more =
        ap (λ t. take (254 * (i + 1)) t ++ words_in (contents (n - (i + 1)) (drop (512 * (i + 1)) s))) (sym (append_assoc (take (254 * i) ws) ys _))
        ∙ (ap (λ t. t ++ words_in (contents (n - (i + 1)) (drop (512 * (i + 1)) s))) (take_at (take (254 * i) ws ++ ys) _ (254 * (i + 1)) front)
        ∙ (append_assoc (take (254 * i) ws) ys _
        ∙ (rw block_words (ap (λ t. take (254 * i) ws ++ t) (sym (next_content s n i h whole))) ∙ found)))

    pub join_behind : drop (254 * (i + 1)) put ≡ drop (254 * (i + 1)) ws₀
    join_behind =
        let e : 254 * i + 254 - 254 * i ≡ 254 = omega arith in let f : 254 * i + 254 ≡ 254 * (i + 1) = omega arith in
        ap (drop (254 * (i + 1))) (sym (append_assoc (take (254 * i) ws) ys _))
        ∙ (drop_at (take (254 * i) ws ++ ys) _ (254 * (i + 1)) front
        ∙ rw (behind, e, drop-drop 254 (254 * i) ws₀, f))

  pub join_end : i ≤ n → n ≤ i → x ≡ words_in (contents n s) → ws ≡ words_in (contents (length s / 512) s) ++ drop (254 * n) ws₀
  unfolding contents words_in
  join_end h k e =
      let f : length s / 512 ≡ n = omega arith in let g : n - i ≡ 0 = omega arith in let m : i ≡ n = omega arith in
      rw (f, ← e, ← rw (g, append-nil) at found, ← rw m at behind, m) (sym (take-append-drop (254 * n) ws))
