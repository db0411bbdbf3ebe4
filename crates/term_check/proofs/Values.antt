-- A case for each way that the check of arguments returns, and what its loop keeps: the elements still to be read leave as many words as all do.
-- The premises have the form of the facts known there, so that `search` finds them.
-- Document 01, "Unfolding, size and breadth"; refusal 10.
use Prim.Native.Nat.{ℕ, suc, ◌+◌, ◌-◌, ◌*◌, ◌/◌, ◌≤◌, ◌<◌}
use native.Mathlib.Numerals.{add-one}
use native.Mathlib.Omega.{arith}
use mathlib.Core.Path.{◌≡◌, refl, sym, ap, ◌∙◌}
use mathlib.Core.Bool.{Bool, true, false}
use mathlib.Core.List.{List, [], ◌∷◌}
use lib.ListN.{length, drop, get_or, length-drop, length-map, drop_of_length-le}
use lib.Seq.{drop-cons}
use lib.Dec.{eqb, ltb}
use borrow.Author.Tests.{eq-eqb, ne_eqb, lt-ltb, le-ltb}
use Rattle.eb3.specs.RuleSets.{domain_size, sizes_of}
use Rattle.eb3.specs.Reading.{Read, refused, taken, pick, giving, then, both, number_in}
use Rattle.eb3.specs.TermReading.{element_of, elements_of}
use Rattle.tables.specs.Tables.{declared}
use Rattle.std.specs.Prelude.{Option, Some, None}
use Rattle.term_check.specs.Answers.{left_after}

-- ── one element, read first ──

-- The element is read, of code 1 (b) and a value below the size (d); or all is refused.
one_read : (ns : List ℕ) (w : ℕ) (t : List ℕ) (b d : Bool)
    → left_after (giving (λ (p : ℕ × List ℕ). p.0 ∷ p.1) (then (pick b (pick d (taken w t) (refused 6)) (refused 4)) (λ a u. giving (λ vs. (a, vs)) (elements_of 1 ns u)))) ≡ pick b (pick d (left_after (elements_of 1 ns t)) None) None
unfolding left_after giving then
one_read ns w t true true = go (elements_of 1 ns t)
  where
    go : (r : Read (List ℕ)) → left_after (giving (λ (p : ℕ × List ℕ). p.0 ∷ p.1) (giving (λ vs. (w, vs)) r)) ≡ left_after r
    go (refused k) = refl
    go (taken vs u) = refl
one_read ns w t true false = refl
one_read ns w t false d = refl

one_more : (n : ℕ) (ns : List ℕ) (c w : ℕ) (t : List ℕ) → left_after (elements_of 1 (n ∷ ns) (c ∷ w ∷ t)) ≡ pick (eqb c 1) (pick (ltb w n) (left_after (elements_of 1 ns t)) None) None
unfolding elements_of both element_of number_in then
one_more n ns c w t = one_read ns w t (eqb c 1) (ltb w n)

-- ── too few words ──

no_word : (n : ℕ) (ns : List ℕ) → None ≡ left_after (elements_of 1 (n ∷ ns) [])
unfolding elements_of both element_of then giving left_after
no_word n ns = refl

one_word : (n : ℕ) (ns : List ℕ) (c : ℕ) → None ≡ left_after (elements_of 1 (n ∷ ns) (c ∷ []))
unfolding elements_of both element_of number_in then giving left_after
one_word n ns c = go (eqb c 1)
  where
    go : (b : Bool) → None ≡ left_after (giving (λ (p : ℕ × List ℕ). p.0 ∷ p.1) (then {A = ℕ} (pick b (refused 4) (refused 4)) (λ a u. giving (λ vs. (a, vs)) (elements_of 1 ns u))))
    go true = refl
    go false = refl

by_tests : (b d : Bool) (x : Option ℕ) → (d ≡ true → None ≡ x) → None ≡ pick b (pick d x None) None
by_tests true true x e = e refl
by_tests true false x e = refl
by_tests false d x e = refl

few_words : (ns t : List ℕ) → length t < 2 * length ns → None ≡ left_after (elements_of 1 ns t)
few_words [] t h = absurd (let z : ⊥ = omega arith in z)
few_words (n ∷ ns) [] h = no_word n ns
few_words (n ∷ ns) (c ∷ []) h = one_word n ns c
few_words (n ∷ ns) (c ∷ w ∷ t) h = by_tests (eqb c 1) (ltb w n) (left_after (elements_of 1 ns t)) (λ e. few_words ns t (omega arith)) ∙ sym (one_more n ns c w t)

-- ── the loop ──

abbrev words_left : List ℕ → List ℕ → List ℕ → Option ℕ
words_left T ds s = left_after (elements_of 1 (sizes_of (declared T) ds) s)

-- Elements of the first i domains are there.
pub record Met (T ds s : List ℕ) (i : ℕ) : Type 0 where
  pub within : i ≤ length ds
  pub room : 2 * length ds ≤ length s
  pub same : words_left T ds s ≡ words_left T (drop i ds) (drop (2 * i) s)

module _ (T ds s : List ℕ) where
  pub elements_few : length s / 2 < length ds → None ≡ left_after (elements_of 1 (sizes_of (declared T) ds) s)
  elements_few h = few_words (sizes_of (declared T) ds) s (omega (arith, length-map ds (domain_size (declared T))))

  pub elements_start : length ds ≤ length s / 2 → Met T ds s 0
  elements_start h = record { within = omega arith; room = omega arith; same = refl }

  module _ (i : ℕ) (m : Met T ds s i) where
    pub elements_all : length ds ≤ i → Some (length s - 2 * length ds) ≡ left_after (elements_of 1 (sizes_of (declared T) ds) s)
    unfolding elements_of left_after
    elements_all h =
        let e : i ≡ length ds = omega (arith, m.within) in
        let a : words_left T ds s ≡ Some (length (drop (2 * i) s)) = m.same ∙ ap (λ es. words_left T es (drop (2 * i) s)) (drop_of_length-le ds {i = i} h) in
        let b : length s - 2 * length ds ≡ length (drop (2 * i) s) = omega (arith, length-drop (2 * i) s) in
        ap Some b ∙ sym a

    module _ (h : i < length ds) where
      two_words : drop (2 * i) s ≡ get_or s (2 * i) 0 ∷ get_or s (2 * i + 1) 0 ∷ drop (2 * (i + 1)) s
      two_words =
          let r : 2 * length ds ≤ length s = m.room in
          let a : 2 * i < length s = omega arith in
          let b : suc (2 * i) < length s = omega arith in
          let j : suc (2 * i) ≡ 2 * i + 1 = omega arith in
          let k : suc (suc (2 * i)) ≡ 2 * (i + 1) = omega arith in
          drop-cons s (2 * i) 0 a ∙ ap (λ u. get_or s (2 * i) 0 ∷ u) (drop-cons s (suc (2 * i)) 0 b ∙ (λ z. get_or s (j z) 0 ∷ drop (k z) s))

      -- the element of the i-th domain, whose size is x
      this_one : (x : ℕ) → x ≡ domain_size (declared T) (get_or ds i 0)
          → words_left T ds s ≡ pick (eqb (get_or s (2 * i) 0) 1) (pick (ltb (get_or s (2 * i + 1) 0) x) (words_left T (drop (i + 1) ds) (drop (2 * (i + 1)) s)) None) None
      this_one x f = m.same ∙ (λ j. words_left T (drop-cons ds i 0 h j) (two_words j))
          ∙ one_more (domain_size (declared T) (get_or ds i 0)) (sizes_of (declared T) (drop (suc i) ds)) (get_or s (2 * i) 0) (get_or s (2 * i + 1) 0) (drop (2 * (i + 1)) s)
          ∙ (λ j. pick (eqb (get_or s (2 * i) 0) 1) (pick (ltb (get_or s (2 * i + 1) 0) (sym f j)) (words_left T (drop (sym (add-one i) j) ds) (drop (2 * (i + 1)) s)) None) None)

      pub elements_other : (get_or s (2 * i) 0 ≡ 1 → ⊥) → None ≡ left_after (elements_of 1 (sizes_of (declared T) ds) s)
      elements_other c =
          let k : eqb (get_or s (2 * i) 0) 1 ≡ false = ne_eqb (get_or s (2 * i) 0) 1 c in
          let x : ℕ = domain_size (declared T) (get_or ds i 0) in
          sym (this_one x refl ∙ ap (λ b. pick b (pick (ltb (get_or s (2 * i + 1) 0) x) (words_left T (drop (i + 1) ds) (drop (2 * (i + 1)) s)) None) None) k)

      -- d is the domain, x its size and v the value
      module _ (d x v : ℕ) (o : d ≡ get_or ds i 0) (f : x ≡ domain_size (declared T) d) (e : v ≡ get_or s (2 * i + 1) 0) where
        by_value : (b : Bool) → ltb v x ≡ b → words_left T ds s ≡ pick (eqb (get_or s (2 * i) 0) 1) (pick b (words_left T (drop (i + 1) ds) (drop (2 * (i + 1)) s)) None) None
        by_value b z = this_one x (f ∙ ap (domain_size (declared T)) o) ∙ ap (λ y. pick (eqb (get_or s (2 * i) 0) 1) (pick y (words_left T (drop (i + 1) ds) (drop (2 * (i + 1)) s)) None) None) (ap (λ y. ltb y x) (sym e) ∙ z)

        pub elements_high : x ≤ v → None ≡ left_after (elements_of 1 (sizes_of (declared T) ds) s)
        elements_high g = by_tests (eqb (get_or s (2 * i) 0) 1) false (words_left T (drop (i + 1) ds) (drop (2 * (i + 1)) s)) (λ y. cc) ∙ sym (by_value false (le-ltb v x g))

        pub elements_next : get_or s (2 * i) 0 ≡ 1 → v < x → Met T ds s (i + 1)
        elements_next c g = record {
          within = omega arith;
          room = m.room;
          same = by_value true (lt-ltb v x g) ∙ ap (λ b. pick b (words_left T (drop (i + 1) ds) (drop (2 * (i + 1)) s)) None) (eq-eqb (get_or s (2 * i) 0) 1 c);
        }

pub ruleset some_elements = (elements_few, elements_start, elements_all, elements_other, elements_high, elements_next)
