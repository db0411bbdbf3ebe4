-- A case for each way that the check of actions returns. The premises have the form of the facts known there, so that `search` finds them.
-- Document 01, "Unfolding, size and breadth"; refusal 10.
use Prim.Native.Nat.{ℕ, ◌+◌, ◌*◌, ◌≤◌, ◌<◌}
use native.Mathlib.Omega.{arith}
use mathlib.Core.Path.{◌≡◌, refl, sym, ap, ◌∙◌, subst}
use mathlib.Core.Bool.{Bool, true, false}
use mathlib.Core.List.{List, ◌∷◌, ◌++◌}
use lib.ListN.{length, drop, get_or, length-map}
use lib.Dec.{ltb}
use borrow.Author.Tests.{lt-ltb, le-ltb}
use Rattle.eb3.specs.Generic.Lists.{Within}
use Rattle.eb3.specs.Terms.{Term}
use Rattle.eb3.specs.Sizes.{arguments_size}
use Rattle.eb3.specs.Spelling.{arguments_words}
use Rattle.eb3.proofs.Laws.Sizes.{arguments_double}
use Rattle.eb3.proofs.Laws.Elements.{within_length}
use Rattle.eb3.specs.RuleSets.{domain_size, sizes_of, label}
use Rattle.eb3.specs.Measures.{sat, leaf, measure_running}
use Rattle.eb3.specs.Reading.{refused, taken, Reader, pick, giving, then, number_of, by_number}
use Rattle.eb3.specs.TermReading.{elements_of, perform, action_of}
use Rattle.eb3.proofs.Laws.Reading.{Sound}
use Rattle.eb3.proofs.Laws.TermReading.{elements_sound}
use Rattle.words.specs.Ends.{Fine}
use Rattle.words.specs.Laws.Checking.{nil_form, cons_form}
use Rattle.words.specs.Readings.{Taken}
use Rattle.words.specs.Laws.Reading.{giving_refused_as, giving_taken, same_refused}
use Rattle.measures.specs.declared.Weight.{Weight}
use Rattle.measures.specs.Weighing.{cap, measure}
use Rattle.tables.specs.Layout.{label_place, label_count}
use Rattle.tables.specs.Tables.{row, declared}
use Rattle.tables.specs.Laws.Tables.{labels_length, label_at}
use Rattle.term_check.specs.Given.{Weighed, answer_of, weighed_running}
use Rattle.term_check.specs.Answers.{left_after}
use Rattle.term_check.specs.Laws.Reading.{elements_end}
use Rattle.std.specs.Prelude.{Option, Some, None}
use Rattle.term_check.specs.Laws.Answers.{refused_none, left_none, left_taken}

-- An element was read for each size.
elements_count : (ns t vs u : List ℕ) → elements_of 1 ns t ≡ taken vs u → length vs ≡ length ns
elements_count ns t vs u e =
    let h : (t ≡ arguments_words 1 vs ++ u) × Within ns vs = subst (λ r. Sound (arguments_words 1) (Within ns) t r) e (elements_sound 1 ns t) in
    within_length ns vs h.1

-- ── an action ──

-- What comes after a label.
abbrev performed : List ℕ → ℕ → Reader Term
performed T k u = giving (perform k) (elements_of 1 (sizes_of (declared T) (label (declared T) k)) u)

module _ (T t : List ℕ) where
  pub action_none : length t ≡ 0 → None ≡ weighed_running (action_of (declared T) t)
  unfolding action_of by_number number_of then weighed_running
  action_none h = ap (λ u. weighed_running (action_of (declared T) u)) (sym (nil_form t h))

  -- b is the number of labels, d the label
  module _ (h : length t ≡ 0 → ⊥) (b d : ℕ) (i : b ≡ label_count T) (z : d ≡ get_or t 0 0) where
    by_label : (c : Bool) → ltb d b ≡ c → action_of (declared T) t ≡ then (pick c (taken d (drop 1 t)) (refused 5)) (performed T)
    unfolding action_of by_number number_of declared
    by_label c e =
        let f : t ≡ d ∷ drop 1 t = cons_form t h ∙ ap (λ k. k ∷ drop 1 t) (sym z) in
        let g : ltb d (length (declared T).labels) ≡ c = ap (ltb d) (labels_length T ∙ sym i) ∙ e in
        ap (action_of (declared T)) f ∙ ap (λ k. then (pick k (taken d (drop 1 t)) (refused 5)) (performed T)) g

    pub action_high : b ≤ d → None ≡ weighed_running (action_of (declared T) t)
    unfolding then
    action_high o = refused_none _ _ (record { code = 5; read = by_label false (le-ltb d b o); named = refl })

    -- ds are the label's domains, u the words after the label, p how many words are left after an element of each domain
    module _ (k : d < b) (ds u : List ℕ) (p : Option ℕ) (o : ds ≡ row T (label_place d)) (l : u ≡ drop 1 t) (f : p ≡ left_after (elements_of 1 (sizes_of (declared T) ds) u)) where
      domains_are : label (declared T) d ≡ ds
      domains_are = label_at T d (omega (arith, i)) ∙ sym o

      there : action_of (declared T) t ≡ giving (perform d) (elements_of 1 (sizes_of (declared T) ds) (drop 1 t))
      unfolding then
      there = by_label true (lt-ltb d b k) ∙ ap (λ es. giving (perform d) (elements_of 1 (sizes_of (declared T) es) (drop 1 t))) domains_are

      ends : Fine (drop 1 t) (elements_of 1 (sizes_of (declared T) ds) (drop 1 t))
      ends = elements_end 1 (sizes_of (declared T) ds) (drop 1 t)

      behind : p ≡ left_after (elements_of 1 (sizes_of (declared T) ds) (drop 1 t))
      behind = f ∙ ap (λ e. left_after (elements_of 1 (sizes_of (declared T) ds) e)) l

      pub action_out : p ≡ None → None ≡ weighed_running (action_of (declared T) t)
      action_out g =
          let a = left_none _ (sym g ∙ behind) in
          refused_none _ a.0 (same_refused _ _ a.0 there (giving_refused_as _ _ a.0 a.1))

      module _ (m c : ℕ) (w : Weight) (g : p ≡ Some m) (y : c ≡ length ds) (v : measure w ≡ leaf (sat cap) (2 + 2 * c)) where
        arguments_taken : Taken (drop 1 t) m (elements_of 1 (sizes_of (declared T) ds) (drop 1 t))
        arguments_taken = left_taken (drop 1 t) m _ ends (sym g ∙ behind)

        words_counted : (vs : List ℕ) → length vs ≡ length (sizes_of (declared T) ds) → measure w ≡ leaf (sat cap) (2 + arguments_size 1 (length vs))
        words_counted vs e = v ∙ ap (λ k. leaf (sat cap) (2 + k)) (ap (λ k. 2 * k) (y ∙ sym (e ∙ length-map ds (domain_size (declared T)))) ∙ sym (arguments_double (length vs)))

        pub action_in : (x : Option Weighed) → x ≡ answer_of m (measure w) → x ≡ weighed_running (action_of (declared T) t)
        unfolding weighed_running measure_running
        action_in x e =
            let a = arguments_taken in
            let k : action_of (declared T) t ≡ taken (perform d a.value) a.rest = there ∙ giving_taken _ _ a.value a.rest a.read in
            let n : length a.value ≡ length (sizes_of (declared T) ds) = elements_count (sizes_of (declared T) ds) (drop 1 t) a.value a.rest a.read in
            e ∙ (λ j. answer_of (a.left j) (words_counted a.value n j)) ∙ sym (ap weighed_running k)

pub ruleset actions = (action_none, action_high, action_out, action_in)
