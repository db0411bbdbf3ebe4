-- Laws of preparing: word by word a store is made ready, and word by word a memory is put into it.
-- Document 01, "Memory and the history machine".
use Rattle.std.specs.Prelude.{◌≡◌, refl, Bool, List, ℕ, ◌+◌, ◌-◌, ◌*◌, ◌/◌, ◌%◌, ◌≤◌, ◌<◌, length, get_or, set, take, drop, replicate}
use Rattle.std.proofs.Common.{sym, ap, subst, ◌∙◌, length-set, length-drop, length-take-le}
use native.Mathlib.Omega.{arith}
use borrow.Rule.Slice.PartMut.{put_mid}
use Rattle.std.proofs.lemmas.List.{places}
use Rattle.std.proofs.Math.Decide.{ℕ_discrete, dec_lt}
use Rattle.std.proofs.Math.ListN.{get_or-eq_default}
use borrow.Author.Tests.{lt-ltb, le-ltb, le-leb}
use Rattle.eb3.specs.Bytes.{words_in, written}
use Rattle.eb3.proofs.Laws.Bytes.{words_counted}
use Rattle.declarations.specs.Directory.{first_cell_in}
use Rattle.expressions.specs.Stores.{stored, now_place, old_cells_place, row_words, row_place, begin_place}
use Rattle.writing.specs.Wrote.{Wrote}
use Rattle.cells.specs.Laws.Turns.{stored_there, stored_else}
use Rattle.cells.specs.Preparing.{Prepared, ready_word, Loaded, Saved}
use Rattle.cells.specs.Preparing.{Loading}

-- ── the words below the cells ──

module _ (D : List ℕ) (w n c : ℕ) where
  pub ready_variable : (i : ℕ) → i < old_cells_place → 65535 ≡ ready_word D w n c i
  unfolding ready_word
  ready_variable i h = rw (lt-ltb i old_cells_place h)

  pub ready_old : (i : ℕ) → old_cells_place ≤ i → i < row_place 0 → now_place + c ≡ ready_word D w n c i
  unfolding ready_word
  ready_old i h k = rw (le-ltb i old_cells_place h, lt-ltb i (row_place 0) k)

  pub ready_row : (i v : ℕ) → row_place 0 ≤ i → (i - row_place 0) / row_words < n → v ≡ get_or D (w * ((i - row_place 0) / row_words) + i % row_words) 0 % 65536 → v ≡ ready_word D w n c i
  unfolding ready_word
  ready_row i v h k e =
      let a : old_cells_place ≤ i = omega arith in
      rw (le-ltb i old_cells_place a, le-ltb i (row_place 0) h, lt-ltb ((i - row_place 0) / row_words) n k) e

  pub ready_none : (i : ℕ) → row_place 0 ≤ i → n ≤ (i - row_place 0) / row_words → 0 ≡ ready_word D w n c i
  unfolding ready_word
  ready_none i h k =
      let a : old_cells_place ≤ i = omega arith in
      rw (le-ltb i old_cells_place a, le-ltb i (row_place 0) h, le-ltb ((i - row_place 0) / row_words) n k)

-- ── the loop over them ──

pub record Readying (D M M' : List ℕ) (w n c i : ℕ) : Type 0 where
  pub below : (k : ℕ) → k < i → stored M' k ≡ ready_word D w n c k
  pub kept : (k : ℕ) → i ≤ k → stored M' k ≡ stored M k

module _ (D M : List ℕ) (w n c : ℕ) where
  pub readying_start : Readying D M M w n c 0
  readying_start = record { below = λ k h. absurd (let z : ⊥ = omega arith in z); kept = λ k h. refl }

  pub readying_next : (M' : List ℕ) (i v : ℕ) → i < length M' → v ≡ ready_word D w n c i → Readying D M M' w n c i → Readying D M (set M' i v) w n c (i + 1)
  readying_next M' i v l e r = record {
    below = λ k h. go k h (ℕ_discrete k i);
    kept = λ k h. stored_else M' i k v (λ q. let z : ⊥ = omega arith in z) ∙ r.kept k (omega arith);
  }
    where
      go : (k : ℕ) → k < i + 1 → Dec (k ≡ i) → stored (set M' i v) k ≡ ready_word D w n c k
      go k h (yes q) = ap (stored (set M' i v)) q ∙ stored_there M' i v l ∙ e ∙ ap (ready_word D w n c) (sym q)
      go k h (no q) = stored_else M' i k v q ∙ r.below k (omega arith)

  pub readying_end : (M' : List ℕ) (i : ℕ) → n ≤ 16 → i ≤ now_place → now_place ≤ i → Readying D M M' w n c i → Prepared D M M' w n c
  readying_end M' i few h l r = record {
    no_variables = λ k q. r.below k (omega arith) ∙ sym (ready_variable D w n c k q);
    old_cells = r.below old_cells_place (omega arith) ∙ sym (ready_old D w n c old_cells_place (omega arith) (omega arith));
    sizes = λ f q. r.below (row_place f) (omega arith) ∙ sym (ready_row D w n c (row_place f) _ (omega arith) (omega arith) (front f ∙ at f 0 (row_place f) (omega arith) (omega arith)));
    begins = λ f q. r.below (begin_place f) (omega arith) ∙ sym (ready_row D w n c (begin_place f) _ (omega arith) (omega arith) (at f first_cell_in (begin_place f) (omega arith) (omega arith)));
    no_functions = λ f q s. (r.below (row_place f) (omega arith) ∙ sym (ready_none D w n c (row_place f) (omega arith) (omega arith)), r.below (begin_place f) (omega arith) ∙ sym (ready_none D w n c (begin_place f) (omega arith) (omega arith)));
    kept = λ k q. r.kept k (omega arith);
  }
    where
      front : (f : ℕ) → get_or D (w * f) 0 % 65536 ≡ get_or D (w * f + 0) 0 % 65536
      front f = let z : w * f ≡ w * f + 0 = omega arith in ap (λ k. get_or D k 0 % 65536) z

      at : (f j k : ℕ) → (k - row_place 0) / row_words ≡ f → k % row_words ≡ j → get_or D (w * f + j) 0 % 65536 ≡ get_or D (w * ((k - row_place 0) / row_words) + k % row_words) 0 % 65536
      at f j k a b = ap (λ g. get_or D (w * g + j) 0 % 65536) (sym a) ∙ ap (λ p. get_or D (w * ((k - row_place 0) / row_words) + p) 0 % 65536) (sym b)

-- ── zeros ──

-- Zeros from a place to a place.
pub record Cleared (M M' : List ℕ) (from to : ℕ) : Type 0 where
  pub same_length : length M' ≡ length M
  pub zeros : (k : ℕ) → from ≤ k → k < to → stored M' k ≡ 0
  pub kept_below : (k : ℕ) → k < from → stored M' k ≡ stored M k
  pub kept_above : (k : ℕ) → to ≤ k → stored M' k ≡ stored M k

module _ (M : List ℕ) (from : ℕ) where
  pub cleared_start : Cleared M M from from
  cleared_start = record { same_length = refl; zeros = λ k h l. absurd (let z : ⊥ = omega arith in z); kept_below = λ k h. refl; kept_above = λ k h. refl }

  pub cleared_next : (M' : List ℕ) (i : ℕ) → from ≤ i → i < length M → Cleared M M' from i → Cleared M (set M' i 0) from (i + 1)
  cleared_next M' i h l r = record {
    same_length = length-set M' i 0 ∙ r.same_length;
    zeros = λ k p q. go k p q (ℕ_discrete k i);
    kept_below = λ k q. stored_else M' i k 0 (λ e. let z : ⊥ = omega arith in z) ∙ r.kept_below k q;
    kept_above = λ k q. stored_else M' i k 0 (λ e. let z : ⊥ = omega arith in z) ∙ r.kept_above k (omega arith);
  }
    where
      go : (k : ℕ) → from ≤ k → k < i + 1 → Dec (k ≡ i) → stored (set M' i 0) k ≡ 0
      go k p q (yes e) = ap (stored (set M' i 0)) e ∙ stored_there M' i 0 (omega (arith, r.same_length))
      go k p q (no e) = stored_else M' i k 0 e ∙ r.zeros k p (omega arith)

  pub cleared_end : (M' : List ℕ) (i to : ℕ) → i ≤ to → to ≤ i → Cleared M M' from i → Cleared M M' from to
  cleared_end M' i to h l r = let e : i ≡ to = omega arith in subst (Cleared M M' from) e r

-- Zeros put over a part of a slice.
pub cleared_part : (M Y : List ℕ) (from to : ℕ) → from ≤ to → to ≤ length M → Y ≡ replicate (length (take (to - from) (drop from M))) 0 → Cleared M (put_mid from (to - from) M Y) from to
unfolding stored
cleared_part M Y from to h l e =
    let size : length (take (to - from) (drop from M)) ≡ to - from = length-take-le (to - from) (drop from M) (omega (arith, length-drop from M)) in
    subst (λ Z. Cleared M (put_mid from (to - from) M Z) from to) (sym (e ∙ ap (λ n. replicate n 0) size)) (record {
      same_length = grind (arith, places);
      zeros = λ k p q. grind (arith, places);
      kept_below = λ k p. grind (arith, places);
      kept_above = λ k p. grind (arith, places);
    })

-- ── words of a memory ──

pub word_past : (B : List ℕ) (i : ℕ) → length B / 2 ≤ i → get_or (words_in B) i 0 ≡ 0
word_past B i h = get_or-eq_default (words_in B) 0 (omega (arith, words_counted B))

-- ── the loop over them ──

module _ (B M : List ℕ) (at : ℕ) where
  pub loading_start : Loading B M M at 0
  loading_start = record { same_length = refl; there = λ k h. absurd (let z : ⊥ = omega arith in z); kept_below = λ k h. refl; kept_above = λ k h. refl }

  pub loading_next : (M' : List ℕ) (i v : ℕ) → at + i < length M → v ≡ get_or (words_in B) i 0 → Loading B M M' at i → Loading B M (set M' (at + i) v) at (i + 1)
  loading_next M' i v l e r = record {
    same_length = length-set M' (at + i) v ∙ r.same_length;
    there = λ k h. go k h (ℕ_discrete k i);
    kept_below = λ k h. stored_else M' (at + i) k v (λ q. let z : ⊥ = omega arith in z) ∙ r.kept_below k h;
    kept_above = λ k h. stored_else M' (at + i) k v (λ q. let z : ⊥ = omega arith in z) ∙ r.kept_above k (omega arith);
  }
    where
      go : (k : ℕ) → k < i + 1 → Dec (k ≡ i) → stored (set M' (at + i) v) (at + k) ≡ get_or (words_in B) k 0
      go k h (yes q) = ap (λ p. stored (set M' (at + i) v) (at + p)) q ∙ stored_there M' (at + i) v (omega (arith, r.same_length)) ∙ e ∙ ap (λ p. get_or (words_in B) p 0) (sym q)
      go k h (no q) = stored_else M' (at + i) (at + k) v (λ s. let z : ⊥ = omega arith in z) ∙ r.there k (omega arith)

  pub loading_done : (M' : List ℕ) (i k : ℕ) → i ≤ k → k ≤ i → Loading B M M' at i → Loading B M M' at k
  loading_done M' i k h l r = let e : i ≡ k = omega arith in subst (Loading B M M' at) e r

  -- and words that the memory does not have
  pub loading_zeros : (M' M'' : List ℕ) (k n : ℕ) → k ≤ n → (k < n → length B / 2 ≤ k) → Loading B M M' at k → Cleared M' M'' (at + k) (at + n) → Loading B M M'' at n
  loading_zeros M' M'' k n h past r z = record {
    same_length = z.same_length ∙ r.same_length;
    there = λ i l. go i l (dec_lt i k);
    kept_below = λ i l. z.kept_below i (omega arith) ∙ r.kept_below i l;
    kept_above = λ i l. z.kept_above i l ∙ r.kept_above i (omega arith);
  }
    where
      go : (i : ℕ) → i < n → Dec (i < k) → stored M'' (at + i) ≡ get_or (words_in B) i 0
      go i l (yes d) = z.kept_below (at + i) (omega arith) ∙ r.there i d
      go i l (no d) = let p = past (omega arith) in z.zeros (at + i) (omega arith) (omega arith) ∙ sym (word_past B i (omega arith))

  -- the loop ends where c words are put, or where there is no room for more
  pub loading_end : (M' : List ℕ) (i c : ℕ) → i ≤ c → (i < c → length M ≤ at + i) → Loading B M M' at i → Loaded B M M' at c
  loading_end M' i c h full r = record {
    same_length = r.same_length;
    there = λ k l q. r.there k (go k l q (dec_lt k i));
    kept_below = r.kept_below;
    kept_above = λ k l. r.kept_above k (omega arith);
  }
    where
      go : (k : ℕ) → k < c → at + k < length M → Dec (k < i) → k < i
      go k l q (yes d) = d
      go k l q (no d) = absurd (let f = full (omega arith) in let z : ⊥ = omega arith in z)

-- ── the cells written ──

pub saved_not : (M B : List ℕ) (c : ℕ) → length M < now_place + c → Saved M B B c
saved_not M B c h = record { same_length = refl; right = λ l k. absurd (let z : ⊥ = omega arith in z) }

pub saved_all : (M B B' : List ℕ) (c : ℕ) (ok : Bool) → now_place + c ≤ length M → Wrote (take ((now_place + c) - now_place) (drop now_place M)) B B' ok → Saved M B B' c
saved_all M B B' c ok h w =
    let e : (now_place + c) - now_place ≡ c = omega arith in
    let s : take ((now_place + c) - now_place) (drop now_place M) ≡ take c (drop now_place M) = ap (λ n. take n (drop now_place M)) e in
    let l : length (take ((now_place + c) - now_place) (drop now_place M)) ≡ c = ap length s ∙ length-take-le c (drop now_place M) (omega (arith, length-drop now_place M)) in
    record {
      same_length = w.same_length;
      right = λ p q. w.right (w.fits ∙ le-leb (2 * length (take ((now_place + c) - now_place) (drop now_place M))) (length B) (omega (arith, l))) ∙ ap (λ ws. written ws B) s;
    }
