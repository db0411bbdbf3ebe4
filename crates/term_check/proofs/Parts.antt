-- A case for each way that the checks of two terms, a parallel and a guard return. The premises have the form of the facts known there: `search` finds
-- those of the rulesets, and the answers of the cycle of checks give the others.
-- Document 01, "Unfolding, size and breadth"; refusal 10.
use Prim.Native.Nat.{ℕ, ◌-◌, ◌≤◌}
use native.Mathlib.Omega.{arith}
use mathlib.Core.Path.{◌≡◌, refl, sym, ap, ◌∙◌, subst}
use mathlib.Core.Bool.{Bool}
use mathlib.Core.List.{List, ◌++◌}
use lib.ListN.{length, take, length-append}
use Rattle.eb3.specs.Expressions.{Cond}
use Rattle.eb3.specs.Spelling.{cond_words}
use Rattle.eb3.specs.Scopes.{Scope, guard_scope, CondInScope}
use Rattle.eb3.specs.Terms
use Rattle.eb3.specs.Terms.{Term, Guard, Mask}
use Rattle.eb3.specs.Sizes.{cond_size, zero_mask}
use Rattle.eb3.specs.RuleSets.{attributes}
use Rattle.eb3.specs.Measures.{sat, Measure, parallel_of, guard_of, measure_running}
use Rattle.eb3.specs.Reading.{Read, refused, taken, Reader, giving, both}
use Rattle.eb3.specs.ExpressionReading.{read_cond}
use Rattle.eb3.specs.TermReading.{mask_of, TermKind, term_by, read_term}
use Rattle.eb3.proofs.Laws.Reading.{Sound}
use Rattle.eb3.proofs.Laws.ExpressionReading.{cond_sound}
use Rattle.eb3.proofs.Laws.Spelling.{cond_length}
use Rattle.words.specs.Checking.{checked, last_of, Checked}
use Rattle.words.specs.Laws.Checking.{last_len}
use Rattle.words.specs.Readings.{Taken, RefusedAs}
use Rattle.words.specs.Laws.Reading.{checked_refused, checked_taken, giving_refused_as, giving_taken, both_first_as, both_second_as, both_taken, both_behind, same_refused}
use Rattle.expression_check.specs.Laws.Reading.{cond_ends}
use Rattle.measures.specs.declared.Weight.{Weight}
use Rattle.measures.specs.Weighing.{cap, measure, parallel_by, joint_of}
use Rattle.tables.specs.Layout.{label_count, function_count}
use Rattle.tables.specs.Tables.{edition_in, declared}
use Rattle.tables.specs.Laws.Tables.{labels_length, guard_declared, mask_ends, mask_read}
use Rattle.measures.specs.declared.Joint.{Joint}
use Rattle.measures.specs.declared.Joint.TheVariants.{Parallel}
use Rattle.term_check.specs.Given.{Weighed, answer_of, weighed_running}
use Rattle.term_check.specs.Answers.{weighed_pair}
use Rattle.term_check.specs.Laws.Answers.{refused_none, none_read, measure_said, Got, got}
use Rattle.std.specs.Prelude.{Option, Some, None, Ok, Err}
use Rattle.refusals.specs.declared.Refusal.{Refusal}

abbrev pub reads : List ℕ → Reader Term
reads T = read_term (declared T)

-- ── two terms ──

module _ (T t : List ℕ) (c : Joint) where
  pub pair_first : None ≡ weighed_running (read_term (declared T) t) → None ≡ weighed_pair c (both (read_term (declared T)) (read_term (declared T)) t)
  unfolding weighed_pair
  pair_first e =
      let g = none_read (reads T t) e in
      let m = both_first_as (reads T) (reads T) t g.0 g.1 in
      rw m.read

  -- S is the tables after the first term, r the words after it
  module _ (p : Weighed) (fits : length t ≤ 8192) (e : Some p ≡ weighed_running (read_term (declared T) t))
      (S : List ℕ) (o : S ≡ T) (r : List ℕ) (l : r ≡ last_of p.left t) where
    first : Got T t p
    first = got T t p fits e

    rest_is : first.rest ≡ r
    rest_is = sym first.words ∙ sym l

    pub pair_second : None ≡ weighed_running (read_term (declared S) r) → None ≡ weighed_pair c (both (read_term (declared T)) (read_term (declared T)) t)
    unfolding weighed_pair
    pair_second f =
        let g = none_read (reads T r) (f ∙ (λ k. weighed_running (reads (o k) r))) in
        let s : RefusedAs g.0 (reads T first.rest) = same_refused _ _ g.0 (ap (reads T) rest_is) g.1 in
        let m = both_second_as (reads T) (reads T) t first.value first.rest g.0 first.read s in
        rw m.read

    module _ (q : Weighed) (f : Some q ≡ weighed_running (read_term (declared S) r)) where
      second : Got T r q
      second = got T r q (omega (arith, last_len p.left t r l)) (f ∙ (λ k. weighed_running (reads (o k) r)))

      long : length r ≡ p.left
      long = ap length (sym rest_is) ∙ sym first.left

      pub pair_short : q.left ≤ p.left
      pair_short = omega (arith, long, second.short)

      pub pair_in : (a b x : Weight) → measure a ≡ measure_said (length t - p.left) p → measure b ≡ measure_said (p.left - q.left) q
          → measure x ≡ joint_of c (measure a) (measure b)
          → (y : Option Weighed) → y ≡ answer_of q.left (measure x) → y ≡ weighed_pair c (both (read_term (declared T)) (read_term (declared T)) t)
      unfolding weighed_pair
      pair_in a b x i j h y g =
          let u = first in
          let v = second in
          let m : measure b ≡ measure_running (sat cap) 1 v.value = j ∙ (λ k. measure_said (sym long k - q.left) q) ∙ v.measured in
          let z : both (reads T) (reads T) t ≡ taken (u.value, v.value) v.rest =
          both_taken (reads T) (reads T) t u.value u.rest v.value v.rest u.read (ap (reads T) rest_is ∙ v.read) in
          g ∙ (λ k. answer_of (v.left k) (h k)) ∙ (λ k. answer_of (length v.rest) (joint_of c ((i ∙ u.measured) k) (m k))) ∙ sym (ap (weighed_pair c) z)

pub ruleset pairs = (pair_first)

-- ── a mask, then two terms ──

giving_giving : {A B C : Type 0} (f : B → C) (g : A → B) (r : Read A) → giving f (giving g r) ≡ giving (λ a. f (g a)) r
unfolding giving
giving_giving f g (refused k) = refl
giving_giving f g (taken a t) = refl

weighed_parallel : (c : Joint) (Δ : Mask) → ((l r : Measure) → joint_of c l r ≡ parallel_of (sat cap) Δ l r) → (s : Read (Term × Term)) → weighed_pair c s ≡ weighed_running (giving (λ p. Terms.Parallel Δ p.0 p.1) s)
unfolding weighed_pair weighed_running giving measure_running
weighed_parallel c Δ h (refused k) = refl
weighed_parallel c Δ h (taken s t) = λ j. answer_of (length t) (h (measure_running (sat cap) 1 s.0) (measure_running (sat cap) 1 s.1) j)

-- b is the number of labels, as the code has it
module _ (T t : List ℕ) (b : ℕ) (p : Checked) (i : b ≡ label_count T) (e : p ≡ checked (mask_of 4 b t)) where
  abbrev masks : Reader Mask
  masks = mask_of 4 (length (declared T).labels)

  as_declared : p ≡ checked (masks t)
  as_declared = e ∙ ap (λ n. checked (mask_of 4 n t)) (i ∙ sym (labels_length T))

  pub parallel_none : (k : Refusal) → p ≡ Err k → None ≡ weighed_running (term_by (declared T) (read_term (declared T)) TermKind.parallel t)
  parallel_none k h =
      refused_none _ k (giving_refused_as _ _ k (both_first_as masks (both (reads T) (reads T)) t k (checked_refused (masks t) k (sym h ∙ as_declared))))

  -- z says whether the mask is zero
  module _ (n : ℕ) (r : List ℕ) (z : Bool) (x : Option Weighed) (h : p ≡ Ok n) (l : r ≡ last_of n t) (o : z ≡ zero_mask (take 4 t)) where
    mask : Taken t n (masks t)
    mask = checked_taken t n (masks t) (mask_ends 4 (length (declared T).labels) t) (sym h ∙ as_declared)

    mask_zero : z ≡ zero_mask mask.value
    mask_zero = o ∙ ap zero_mask (sym (mask_read 4 (length (declared T).labels) t mask.value mask.rest mask.read))

    pub parallel_in : x ≡ weighed_pair (Parallel z) (both (read_term (declared T)) (read_term (declared T)) r) → x ≡ weighed_running (term_by (declared T) (read_term (declared T)) TermKind.parallel t)
    unfolding joint_of
    parallel_in f =
        let k : both masks (both (reads T) (reads T)) t ≡ giving (λ s. (mask.value, s)) (both (reads T) (reads T) r) =
        both_behind masks (both (reads T) (reads T)) t mask.value mask.rest mask.read ∙ ap (λ u. giving (λ s. (mask.value, s)) (both (reads T) (reads T) u)) (sym mask.words ∙ sym l) in
        f ∙ weighed_parallel (Parallel z) mask.value (λ u v. ap (λ y. parallel_by y u v) mask_zero) (both (reads T) (reads T) r)
        ∙ sym (ap weighed_running (ap (giving (λ s. Terms.Parallel s.0 s.1.0 s.1.1)) k ∙ giving_giving _ _ (both (reads T) (reads T) r)))

pub ruleset parallels = (parallel_none, parallel_in)

-- ── a condition, then a term ──

-- A condition's size is the words that it took.
words_taken : (P : Scope) (t : List ℕ) (C : Cond) (u : List ℕ) → read_cond P t ≡ taken C u → length t - length u ≡ cond_size P.edition.width C
words_taken P t C u e =
    let w : ℕ = P.edition.width in
    let h : (t ≡ cond_words w C ++ u) × CondInScope C P = subst (λ r. Sound (cond_words w) (λ D. CondInScope D P) t r) e (cond_sound P t) in
    omega (arith, ap length h.0, length-append (cond_words w C) u, cond_length w C)

-- b is the number of functions, as the code has it
module _ (T t : List ℕ) (b : ℕ) (p : Checked) (i : b ≡ function_count T) (e : p ≡ checked (read_cond (record { edition = edition_in T; arity = λ f. 1; now = b; before = 0; variables = 0 }) t)) where
  abbrev conditions : Reader Cond
  conditions = read_cond (guard_scope (attributes (declared T)) 0)

  in_scope : p ≡ checked (conditions t)
  in_scope = e ∙ (λ j. checked (read_cond (record { edition = edition_in T; arity = λ f. 1; now = i j; before = 0; variables = 0 }) t))
      ∙ ap (λ P. checked (read_cond P t)) (sym (guard_declared T 0))

  pub guarded_none : (k : Refusal) → p ≡ Err k → None ≡ weighed_running (term_by (declared T) (read_term (declared T)) TermKind.guard t)
  guarded_none k h = refused_none _ k (giving_refused_as _ _ k (both_first_as conditions (reads T) t k (checked_refused (conditions t) k (sym h ∙ in_scope))))

  -- n words are left after the condition
  module _ (n : ℕ) (h : p ≡ Ok n) where
    condition : Taken t n (conditions t)
    condition = checked_taken t n (conditions t) (cond_ends (guard_scope (attributes (declared T)) 0) t) (sym h ∙ in_scope)

    pub guarded_behind : n ≤ length t
    guarded_behind = condition.short

    -- r is these
    module _ (r : List ℕ) (l : r ≡ last_of n t) where
      behind_is : condition.rest ≡ r
      behind_is = sym condition.words ∙ sym l

      pub guarded_out : None ≡ weighed_running (read_term (declared T) r)
          → None ≡ weighed_running (term_by (declared T) (read_term (declared T)) TermKind.guard t)
      guarded_out f =
          let a = condition in
          let g = none_read (reads T r) f in
          let m : RefusedAs g.0 (reads T a.rest) = same_refused _ _ g.0 (ap (reads T) behind_is) g.1 in
          refused_none _ g.0 (giving_refused_as _ _ g.0 (both_second_as conditions (reads T) t a.value a.rest g.0 a.read m))

      module _ (fits : length t ≤ 8192) (q : Weighed) (f : Some q ≡ weighed_running (read_term (declared T) r)) where
        operand : Got T r q
        operand = got T r q (omega (arith, last_len n t r l)) f

        words_left : length r ≡ n
        words_left = ap length (sym behind_is) ∙ sym condition.left

        pub guarded_short : q.left ≤ n
        guarded_short = omega (arith, words_left, operand.short)

        size_taken : length t - n ≡ cond_size 1 condition.value
        unfolding declared
        size_taken = ap (λ m. length t - m) condition.left
            ∙ words_taken (guard_scope (attributes (declared T)) 0) t condition.value condition.rest condition.read

        pub guarded_in : (a x : Weight) → measure a ≡ measure_said (n - q.left) q → measure x ≡ guard_of (sat cap) (length t - n) (measure a)
            → (y : Option Weighed) → y ≡ answer_of q.left (measure x) → y ≡ weighed_running (term_by (declared T) (read_term (declared T)) TermKind.guard t)
        unfolding weighed_running measure_running
        guarded_in a x i k y g =
            let u = condition in
            let v = operand in
            let m : measure a ≡ measure_running (sat cap) 1 v.value = i ∙ (λ j. measure_said (sym words_left j - q.left) q) ∙ v.measured in
            let z : giving (λ s. Guard s.0 s.1) (both conditions (reads T) t) ≡ taken (Guard u.value v.value) v.rest =
            giving_taken _ _ _ v.rest (both_taken conditions (reads T) t u.value u.rest v.value v.rest u.read (ap (reads T) behind_is ∙ v.read)) in
            g ∙ (λ j. answer_of (v.left j) (k j)) ∙ (λ j. answer_of (length v.rest) (guard_of (sat cap) (size_taken j) (m j))) ∙ sym (ap weighed_running z)

pub ruleset guards = (guarded_none, guarded_out, guarded_short)
