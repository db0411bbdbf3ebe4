-- Cells of a memory in a store: put there, they are what the memory gives; written from there, they are what a memory holds (document 01, "Memory and the
-- history machine": undefined is stored as 65,535). And words of a buffer, loaded to the front of others.
use Rattle.std.specs.Prelude.{◌≡◌, List, [], ◌∷◌, ◌++◌, map, ℕ, zero, suc, ◌+◌, ◌*◌, ◌≤◌, ◌<◌, length, get_or, take, drop}
use Rattle.std.proofs.Common.{sym, ap, subst, ◌∙◌, arith, lit<, length-drop, length-append, take_all, take_at, length-take-le, get_or-take, get_or-drop, ext_get_or}
use Rattle.std.proofs.lemmas.List.{length-map}
use Rattle.eb3.specs.Values.{Value, undefined, encode, decode}
use Rattle.eb3.proofs.Laws.Values.{bounded_at_most}
use Rattle.eb3.specs.Values.{ValuesAtMost}
use Rattle.eb3.proofs.Laws.RuleSets.{get_d_map}
use Rattle.eb3.specs.Bytes.{words_in, word_count, written}
use Rattle.eb3.proofs.Laws.Bytes.{words_counted, written_words}
use Rattle.eb3.proofs.Laws.Spelling.{Small}
use Rattle.eb3.specs.Memory.{memory_words, cells_in}
use Rattle.expressions.specs.Stores.{stored, now_place}
use Rattle.expressions.specs.Laws.Values.{word_of_value, any_default}
use Rattle.cells.specs.Layout.{Holds}
use Rattle.cells.specs.Preparing.{Loaded}

-- ── words and values ──

-- the words of bytes
pub words_small : (B : List ℕ) → ((i : ℕ) → get_or B i 0 < 256) → (k : ℕ) → get_or (words_in B) k 0 < 65536
unfolding words_in
words_small [] h k = lit< tt
words_small (a ∷ []) h k = lit< tt
words_small (a ∷ b ∷ s) h zero = let p : a < 256 = h 0 in let q : b < 256 = h 1 in omega arith
words_small (a ∷ b ∷ s) h (suc k) = words_small s (λ i. h (suc (suc i))) k

-- ── cells given ──

decoded_at_most : (ws : List ℕ) → ValuesAtMost 65534 (map (decode 65534) ws)
unfolding decode
decoded_at_most [] = tt
decoded_at_most (w ∷ ws) = (bounded_at_most 65534 w, decoded_at_most ws)

pub given_at_most : (c : ℕ) (B : List ℕ) → ValuesAtMost 65534 (cells_in 65534 c B)
unfolding cells_in
given_at_most c B = decoded_at_most (take c (words_in B))

pub given_counted : (c : ℕ) (B : List ℕ) → c ≤ word_count B → length (cells_in 65534 c B) ≡ c
unfolding cells_in
given_counted c B h = length-map (take c (words_in B)) (decode 65534) ∙ length-take-le c (words_in B) (omega (arith, words_counted B))

given_cell : (c : ℕ) (B : List ℕ) → c ≤ word_count B → (k : ℕ) → k < c → get_or (cells_in 65534 c B) k undefined ≡ decode 65534 (get_or (words_in B) k 0)
unfolding cells_in
given_cell c B h k l =
    get_d_map (decode 65534) (take c (words_in B)) k 0 undefined (omega (arith, length-take-le c (words_in B) (omega (arith, words_counted B))))
    ∙ ap (decode 65534) (get_or-take c (words_in B) k 0 l)

-- Loaded from a memory of at least c cells, into a store with room for them.
pub loaded_holds : (B M M' : List ℕ) (at c : ℕ) → ((k : ℕ) → get_or (words_in B) k 0 < 65536) → c ≤ word_count B → at + c ≤ length M → Loaded B M M' at c → Holds M' at (cells_in 65534 c B)
loaded_holds B M M' at c small enough room loaded k h =
    let l : k < c = omega (arith, given_counted c B enough) in
    loaded.there k l (omega arith) ∙ sym (word_of_value (get_or (words_in B) k 0) (small k)) ∙ ap (encode 65535) (sym (given_cell c B enough k l))

-- ── words loaded to the front ──

pub stored_is : (M : List ℕ) (i d : ℕ) → i < length M → stored M i ≡ get_or M i d
unfolding stored
stored_is M i d h = any_default M i 65535 d h

module _ (B M M' : List ℕ) (n : ℕ) where
  pub loaded_front : n ≤ word_count B → n ≤ length M → Loaded B M M' 0 n → take n M' ≡ take n (words_in B)
  loaded_front enough room l = ext_get_or 0 (take n M') (take n (words_in B)) (len ∙ sym (length-take-le n (words_in B) (omega (arith, words_counted B)))) each
    where
      len : length (take n M') ≡ n
      len = length-take-le n M' (omega (arith, l.same_length))

      each : (i : ℕ) → i < length (take n M') → get_or (take n M') i 0 ≡ get_or (take n (words_in B)) i 0
      each i h =
          let k : i < n = omega (arith, len) in
          let y : 0 + i ≡ i = omega arith in
          get_or-take n M' i 0 k ∙ sym (stored_is M' i 0 (omega (arith, l.same_length)))
          ∙ subst (λ j. stored M' j ≡ get_or (words_in B) i 0) y (l.there i k (omega arith)) ∙ sym (get_or-take n (words_in B) i 0 k)

  -- all of them
  pub loaded_words : n ≡ word_count B → n ≤ length M → Loaded B M M' 0 n → take n M' ≡ words_in B
  loaded_words e room l = loaded_front (omega arith) room l ∙ take_all n (words_in B) (omega (arith, words_counted B))

-- ── cells written ──

pub held_words : (M : List ℕ) (cells : List Value) (c : ℕ) → length cells ≡ c → now_place + c ≤ length M → Holds M now_place cells → take c (drop now_place M) ≡ memory_words cells
unfolding memory_words
held_words M cells c counted room holds = ext_get_or 0 (take c (drop now_place M)) (map (encode 65535) cells) (len ∙ sym (length-map cells (encode 65535) ∙ counted)) each
  where
    len : length (take c (drop now_place M)) ≡ c
    len = length-take-le c (drop now_place M) (omega (arith, length-drop now_place M))

    each : (i : ℕ) → i < length (take c (drop now_place M)) → get_or (take c (drop now_place M)) i 0 ≡ get_or (map (encode 65535) cells) i 0
    each i h =
        let l : i < c = omega (arith, len) in
        get_or-take c (drop now_place M) i 0 l ∙ get_or-drop now_place M i 0 ∙ sym (stored_is M (now_place + i) 0 (omega arith)) ∙ holds i (omega (arith, counted))
        ∙ sym (get_d_map (encode 65535) cells i undefined 0 (omega (arith, counted)))

-- Words written at a buffer's front and loaded from there.
pub written_loaded : (us B M M' : List ℕ) (n : ℕ) → n ≡ length us → Small us → n ≤ length M → Loaded (written us B) M M' 0 n → take n M' ≡ us
written_loaded us B M M' n e small room l =
    let w : words_in (written us B) ≡ us ++ words_in (drop (2 * length us) B) = written_words us B small in
    loaded_front (written us B) M M' n (omega (arith, words_counted (written us B), ap length w, length-append us (words_in (drop (2 * length us) B)))) room l
    ∙ ap (take n) w ∙ take_at us (words_in (drop (2 * length us) B)) n (sym e)
