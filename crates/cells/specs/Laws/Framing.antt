-- Laws of filling one function's cells in each way: by copies of old cells, by copies and one value, or element by element; and of the loops that do it.
-- Document 01, "Memory and the history machine".
use Rattle.std.specs.Prelude.{◌≡◌, refl, true, List, ℕ, ◌+◌, ◌≤◌, ◌<◌, length, drop, get_or, set}
use Rattle.std.proofs.Common.{sym, ap, subst, ◌∙◌, arith, lit<, length-set}
use Rattle.std.proofs.Math.Decide.{ℕ_discrete, dec_lt}
use Rattle.std.proofs.Math.ListN.{get_or-eq_default}
use Rattle.words.specs.Checking.{last_of}
use Rattle.expressions.specs.declared.valued.Valued.{Valued}
use Rattle.expressions.specs.Stores.{stored, row_place, before_place, parameter_place, argument_place, begin_place, now_place}
use Rattle.expressions.specs.Answering.{Evaluated}
use Rattle.expressions.specs.Laws.Values.{any_default}
use Rattle.cells.specs.Turns.{Turn, Reached}
use Rattle.cells.specs.Laws.Turns.{stored_there, stored_else, turn_next, turn_end}
use Rattle.cells.specs.Frames.{kept_value, AsksOne, Tells, Copied, CopiedApart, Placed, NewCells}
use Rattle.cells.specs.Laws.Frames.{kept_cells, none_named, one_named}

-- o is where the cells begin among all cells
pub placed_by : (t : List ℕ) (f left : ℕ) (s m : List ℕ) (o k : ℕ) → s ≡ last_of left t → k ≡ stored m (row_place f) → o ≡ stored m (begin_place f) → Placed t f left s m (now_place + o) k
placed_by t f left s m o k e h l = record { expression_at = e; size = h; begin = ap (λ i. now_place + i) l }

-- ── copies ──

module _ (m : List ℕ) (from at : ℕ) where
  pub copy_start : Copied m m from at 0
  copy_start = record {
    same_length = refl;
    copies = λ l x h. absurd (let z : ⊥ = omega arith in z);
    kept_below = λ i h. refl;
    kept_above = λ i h. refl;
  }

  pub apart_start : CopiedApart m m from at 0
  apart_start = record { copied = copy_start; copies_up = λ l x h. absurd (let z : ⊥ = omega arith in z) }

  -- w is the word read
  module _ (M' : List ℕ) (x w : ℕ) (read : from + x < length m) (room : at + x < length m) (is_w : w ≡ get_or M' (from + x) 0) (copied : Copied m M' from at x) where
    here : w ≡ stored M' (from + x)
    unfolding stored
    here = is_w ∙ any_default M' (from + x) 0 65535 (omega (arith, copied.same_length))

    word_read : at ≤ from → w ≡ stored m (from + x)
    word_read l = here ∙ copied.kept_above (from + x) (omega arith)

    word_below : from + (x + 1) ≤ at → w ≡ stored m (from + x)
    word_below l = here ∙ copied.kept_below (from + x) (omega arith)

    written_there : stored (set M' (at + x) w) (at + x) ≡ w
    written_there = stored_there M' (at + x) w (omega (arith, copied.same_length))

    copies : w ≡ stored m (from + x) → (y : ℕ) → y < x + 1 → (y < x → stored M' (at + y) ≡ stored m (from + y)) → Dec (y ≡ x) → stored (set M' (at + x) w) (at + y) ≡ stored m (from + y)
    copies r y h earlier (yes e) = ap (λ i. stored (set M' (at + x) w) (at + i)) e ∙ written_there ∙ r ∙ ap (λ i. stored m (from + i)) (sym e)
    copies r y h earlier (no n) = stored_else M' (at + x) (at + y) w (λ e. n (omega arith)) ∙ earlier (omega arith)

    pub copy_next : Copied m (set M' (at + x) w) from at (x + 1)
    copy_next = record {
      same_length = length-set M' (at + x) w ∙ copied.same_length;
      copies = λ l y h. copies (word_read l) y h (λ k. copied.copies l y k) (ℕ_discrete y x);
      kept_below = λ i h. stored_else M' (at + x) i w (λ e. let z : ⊥ = omega arith in z) ∙ copied.kept_below i h;
      kept_above = λ i h. stored_else M' (at + x) i w (λ e. let z : ⊥ = omega arith in z) ∙ copied.kept_above i (omega arith);
    }

    pub apart_next : (from + x ≤ at → (y : ℕ) → y < x → stored M' (at + y) ≡ stored m (from + y)) → CopiedApart m (set M' (at + x) w) from at (x + 1)
    apart_next up = record { copied = copy_next; copies_up = λ l y h. copies (word_below l) y h (λ k. up (omega arith) y k) (ℕ_discrete y x) }

  pub copy_end : (M' : List ℕ) (x k : ℕ) → x ≤ k → k ≤ x → Copied m M' from at x → Copied m M' from at k
  copy_end M' x k h l r = let e : x ≡ k = omega arith in subst (Copied m M' from at) e r

-- ── element by element ──

-- Some cells are new, x of them, whatever function they are of.
abbrev pub Begins : List ℕ → ℕ → ℕ → List ℕ → List ℕ → ℕ → Type 0
Begins s at k m M' x = (f : ℕ) (t : List ℕ) (left : ℕ) → Placed t f left s m at k → (T : Turn t f left) → Reached T m 0 → Reached T M' x

module _ (s m : List ℕ) (at k : ℕ) where
  pub each_start : Begins s at k m m 0
  each_start f t left placed T entered = entered

  pub each_next : (M' : List ℕ) (x : ℕ) (r : Valued) → x < k → Evaluated s (set M' parameter_place x) r → Begins s at k m M' x → Begins s at k m (set (set M' parameter_place x) (at + x) r.value) (x + 1)
  each_next M' x r h evaluated begins f t left placed T entered =
      subst (λ i. Reached T (set (set M' parameter_place x) (i + x) r.value) (x + 1)) (sym placed.begin)
      (turn_next T m entered k (stored m (begin_place f)) placed.size refl M' x r s (begins f t left placed T entered) h placed.expression_at evaluated)

  pub each_end : (M' : List ℕ) (x : ℕ) → x ≤ k → k ≤ x → Begins s at k m M' x → (f : ℕ) → NewCells f s at k m M'
  each_end M' x h l begins f t left placed T entered = turn_end T m entered k (stored m (begin_place f)) placed.size refl M' x h l (begins f t left placed T entered)

-- ── all at once ──

pub first_set : (m M' : List ℕ) (w : ℕ) → length M' ≡ length (set m parameter_place w) → length M' ≡ length m
first_set m M' w e = e ∙ length-set m parameter_place w

pub two_set : (m M' : List ℕ) (w i v : ℕ) → length M' ≡ length (set m parameter_place w) → length (set M' i v) ≡ length m
two_set m M' w i v e = length-set M' i v ∙ first_set m M' w e

-- What the first word holds does not matter.
pub any_first : (f : ℕ) (s m M' : List ℕ) (at k w : ℕ) → NewCells f s at k (set m parameter_place w) M' → NewCells f s at k m M'
any_first f s m M' at k w new t left placed T entered =
    new t left
    (record {
      expression_at = placed.expression_at;
      size = placed.size ∙ sym (other (row_place f) (omega arith));
      begin = placed.begin ∙ ap (λ i. now_place + i) (sym (other (begin_place f) (omega arith)));
    })
    T
    (record {
      same_length = length-set m parameter_place w ∙ entered.same_length;
      begun = record { words = λ c l. other (now_place + c) (omega arith) ∙ entered.begun.words c l; small = entered.begun.small };
      kept_below = λ i h l. other i h ∙ entered.kept_below i h l;
      kept_above = λ i l. other i (omega arith) ∙ entered.kept_above i l;
    })
  where
    other : (i : ℕ) → argument_place 0 ≤ i → stored (set m parameter_place w) i ≡ stored m i
    other i h = stored_else m parameter_place i w (λ e. let z : ⊥ = omega arith in z)

-- all that is in a store is a word
store_words : (m : List ℕ) → ((i : ℕ) → get_or m i 0 < 65536) → (i : ℕ) → stored m i < 65536
unfolding stored
store_words m words i = go (dec_lt i (length m))
  where
    go : Dec (i < length m) → get_or m i 65535 < 65536
    go (yes h) = subst (λ w. w < 65536) (any_default m i 0 65535 h) (words i)
    go (no n) = subst (λ w. w < 65536) (sym (get_or-eq_default m 65535 (omega arith))) (lit< tt)

module _ (f : ℕ) (s m : List ℕ) (from at k : ℕ) (is_from : from ≡ before_place m + stored m (begin_place f)) (words : (i : ℕ) → get_or m i 0 < 65536) where
  pub all_kept : (M' : List ℕ) → Tells true s (λ d. d ≡ kept_value f) → Copied m M' from at k → NewCells f s at k m M'
  all_kept M' tells copied t left placed T entered = kept_cells T m entered s at k placed from is_from (store_words m words) tells M' copied

  -- d is what the element's name answers, a what its value does, u and v the words after them
  module _ (asks : Tells true s AsksOne) (d : Valued) (named : Evaluated (drop 4 s) m d) (u : List ℕ) (is_u : u ≡ last_of d.left s)
      (a : Valued) (valued : Evaluated u (set m parameter_place d.value) a) (v : List ℕ) (is_v : v ≡ last_of a.left u) (keeps : Tells true v (λ b. b ≡ kept_value f)) (M' : List ℕ) (copied : Copied (set m parameter_place d.value) M' from at k) where
    pub named_past : k ≤ d.value → NewCells f s at k m M'
    named_past h t left placed T entered = none_named T m entered s at k placed from is_from (store_words m words) asks d named u is_u a valued v is_v keeps M' copied h

    pub named_one : d.value < k → at + k ≤ length m → NewCells f s at k m (set M' (at + d.value) a.value)
    named_one h room t left placed T entered = one_named T m entered s at k placed from is_from (store_words m words) asks d named u is_u a valued v is_v keeps M' copied h room
