-- The expressions for labels, read by a loop: what holds before each turn (`Sofar`), and a case for each way out.
-- Document 01, "Blocks and the rule stream", item 4; refusals 4 and 5.
use Prim.Native.Nat.{ℕ, suc, ◌+◌, ◌-◌, ◌%◌, ◌≤◌, ◌<◌}
use native.Mathlib.Nat.{le_refl}
use native.Mathlib.Numerals.{add-one}
use native.Mathlib.Omega.{arith}
use mathlib.Core.Path.{◌≡◌, refl, sym, ap, ◌∙◌, subst}
use mathlib.Core.List.{List, [], ◌∷◌, ◌++◌, append-nil, append_assoc}
use lib.ListN.{length, get_or, set, length-set, length-append}
use lib.Seq.{get_or-set_same, get_or-set_other}
use Rattle.eb3.specs.Expressions.{Data}
use Rattle.eb3.specs.Spelling.{data_words}
use Rattle.eb3.specs.Reading.{Read, refused, taken, Reader, giving, then, both, for_each}
use Rattle.eb3.specs.ExpressionReading.{read_data}
use Rattle.words.specs.Checking.{checked, last_of, Checked}
use Rattle.words.specs.Ends.{Tail}
use Rattle.words.specs.Laws.Checking.{tail_on, last_all, tail_at, tail_short, got, last_tail, last_length}
use Rattle.words.specs.Readings.{RefusedAs}
use Rattle.words.specs.Laws.Reading.{checked_refused, not_taken, same_refused, refused_checked}
use Rattle.words.specs.Laws.Rows.{passed}
use Rattle.expression_check.specs.Laws.Reading.{data_ends}
use Rattle.tables.specs.Layout.{label_place}
use Rattle.tables.specs.Tables.{edition_in, from, row}
use Rattle.declarations.specs.Entering.{labels_of}
use Rattle.declarations.specs.Laws.Scopes.{at_label, label_scope}
use Rattle.declarations.specs.Directory.{Stands, Standing}
use Rattle.declarations.proofs.DirectoryLaws.{stands_noted, standing_kept, standing_more}
use Rattle.declarations.specs.Noting.{for_label, label_expressions, LabelsNoted}
use Rattle.std.specs.Prelude.{Ok, Err}
use Rattle.refusals.specs.declared.Refusal.{Refusal}

-- The rest of the labels, from l on.
abbrev rest_of : List ℕ → ℕ → ℕ → ℕ → ℕ → Reader (List Data)
rest_of T n i l k = for_each (labels_of T l k) (for_label T n i)

-- Expressions ds of the first l labels are read, `left` words are left of t, and the places of ds are in D.
pub record Sofar (t T D₀ : List ℕ) (n i k at : ℕ) (D : List ℕ) (left l : ℕ) : Type 0 where
  pub few : l ≤ k
  pub short : left ≤ length t
  pub same_length : length D ≡ length D₀
  pub kept : (j : ℕ) → j < at → get_or D j 0 ≡ get_or D₀ j 0
  pub ds : List Data
  pub count : length ds ≡ l
  pub reading : label_expressions T n i k t ≡ giving (λ es. ds ++ es) (rest_of T n i l (k - l) (last_of left t))
  pub found : (whole : List ℕ) → Tail t whole → length whole < 4294967296 → at + k ≤ length D₀ → Standing (edition_in T).width whole D at ds

giving_same : (r : Read (List Data)) → r ≡ giving (λ es. [] ++ es) r
unfolding giving
giving_same (refused k) = refl
giving_same (taken a u) = refl

pub sofar_start : (t T D : List ℕ) (n i k at : ℕ) → Sofar t T D n i k at D (length t) 0
sofar_start t T D n i k at = record {
  few = omega arith;
  short = le_refl (length t);
  same_length = refl;
  kept = λ j b. refl;
  ds = [];
  count = refl;
  reading =
      let z : k ≡ k - 0 = omega arith in
      (λ j. rest_of T n i 0 (z j) (sym (last_all (length t) t (le_refl (length t))) j)) ∙ giving_same (rest_of T n i 0 (k - 0) (last_of (length t) t));
  found = λ whole tl small room. tt;
}

-- All are read.
giving_none : (ds : List Data) (u : List ℕ) → giving (λ es. ds ++ es) (taken [] u) ≡ taken ds u
unfolding giving
giving_none ds u = ap (λ l. taken l u) (append-nil ds)

pub sofar_end : (t T D₀ : List ℕ) (n i k at : ℕ) (D : List ℕ) (left l : ℕ) → Sofar t T D₀ n i k at D left l → k ≤ l → LabelsNoted T n i k t D₀ at (Ok left) D
unfolding checked for_each from
sofar_end t T D₀ n i k at D left l s h =
    let z : k - l ≡ 0 = omega (arith, s.few) in
    let e : label_expressions T n i k t ≡ taken s.ds (last_of left t) =
    s.reading ∙ ap (λ m. giving (λ es. s.ds ++ es) (rest_of T n i l m (last_of left t))) z ∙ giving_none s.ds (last_of left t) in
    record {
      answer = ap Ok (sym (last_length left t s.short)) ∙ sym (ap checked e);
      same_length = s.same_length;
      kept = s.kept;
      found = λ whole a u tl small room f. (let q : s.ds ≡ a = same_taken s.ds a (last_of left t) u (sym e ∙ f) in subst (Standing (edition_in T).width whole D at) q (s.found whole tl small room));
    }
  where
    same_taken : (a b : List Data) (u v : List ℕ) → taken a u ≡ taken b v → a ≡ b
    same_taken a b u v e = cc

-- One more: R is the label's row, and u what is left.
labels_next : (T : List ℕ) (l k : ℕ) → l < k → labels_of T l (k - l) ≡ row T (label_place l) ∷ labels_of T (l + 1) (k - (l + 1))
unfolding from
labels_next T l k h =
    let e : k - l ≡ suc (k - (l + 1)) = omega arith in
    ap (labels_of T l) e ∙ ap (λ m. row T (label_place l) ∷ labels_of T m (k - (l + 1))) (sym (add-one l))

refused_on : (ds : List Data) (b : List ℕ) (bs : List (List ℕ)) (f : List ℕ → Reader Data) (t : List ℕ) (j : Refusal) → RefusedAs j (f b t) → RefusedAs j (giving (λ es. ds ++ es) (for_each (b ∷ bs) f t))
unfolding giving for_each both then
refused_on ds b bs f t j h = record { code = h.code; read = rw h.read; named = h.named }

taken_on : (ds : List Data) (b : List ℕ) (bs : List (List ℕ)) (f : List ℕ → Reader Data) (t : List ℕ) (d : Data) (u : List ℕ) → f b t ≡ taken d u
    → giving (λ es. ds ++ es) (for_each (b ∷ bs) f t) ≡ giving (λ es. (ds ++ (d ∷ [])) ++ es) (for_each bs f u)
unfolding giving for_each both then
taken_on ds b bs f t d u e = rw e (go (for_each bs f u))
  where
    go : (r : Read (List Data)) → giving (λ es. ds ++ es) (giving {A = Data × List Data} (λ p. p.0 ∷ p.1) (giving (λ c. (d, c)) r)) ≡ giving (λ es. (ds ++ (d ∷ [])) ++ es) r
    go (refused k) = refl
    go (taken es v) = ap (λ l. taken l v) (sym (append_assoc ds (d ∷ []) es))

module _ (t T D₀ R u D D₁ : List ℕ) (n i k at left l : ℕ) (p : Checked) (s : Sofar t T D₀ n i k at D left l) (lt : l < k) (g : D₁ ≡ set D (at + l) (left % 4294967296)) (is_u : u ≡ last_of left t)
    (r : R ≡ row T (label_place l)) (e : p ≡ checked (read_data (at_label n i (length R)) u)) where
  abbrev this : Reader Data
  this = for_label T n i (row T (label_place l))

  here : p ≡ checked (this u)
  here = e ∙ ap (λ S. checked (read_data S u)) (label_scope T n i (length R)) ∙ ap (λ ds. checked (for_label T n i ds u)) r

  on : label_expressions T n i k t ≡ giving (λ es. s.ds ++ es) (for_each (row T (label_place l) ∷ labels_of T (l + 1) (k - (l + 1))) (for_label T n i) u)
  on = s.reading ∙ (λ j. giving (λ es. s.ds ++ es) (for_each (labels_next T l k lt j) (for_label T n i) (sym is_u j)))

  as_long : length D₁ ≡ length D₀
  as_long = ap length g ∙ length-set D (at + l) (left % 4294967296) ∙ s.same_length

  other : (j : ℕ) → j < at + l → get_or D₁ j 0 ≡ get_or D j 0
  other j b = ap (λ E. get_or E j 0) g ∙ get_or-set_other D (at + l) j (left % 4294967296) 0 (omega arith)

  pub sofar_fail : (j : Refusal) → p ≡ Err j → LabelsNoted T n i k t D₀ at (Err j) D₁
  unfolding checked
  sofar_fail j h =
      let f : RefusedAs j (label_expressions T n i k t) = same_refused _ _ j on (refused_on s.ds (row T (label_place l)) (labels_of T (l + 1) (k - (l + 1))) (for_label T n i) u j (checked_refused (this u) j (sym h ∙ here))) in
      record {
        answer = refused_checked _ j f;
        same_length = as_long;
        kept = λ m b. other m (omega arith) ∙ s.kept m b;
        found = λ whole a v tl small room q. absurd (not_taken (label_expressions T n i k t) j a v f q);
      }

  module _ (m : ℕ) (h : p ≡ Ok m) where
    it : (d : Data) × (this u ≡ taken d (last_of m u))
    it = got this (data_ends _) u m p here h

    left_short : length u ≡ left
    left_short = ap length is_u ∙ last_length left t s.short

    tail : Tail u t
    tail = subst (λ v. Tail v t) (sym is_u) (last_tail left t)

    passed_here : Tail (last_of m u) u × (length (last_of m u) ≡ m)
    passed_here = passed u m (this u) (data_ends _ u) (sym h ∙ here)

    behind : Tail (last_of m u) t
    behind = tail_on (last_of m u) u t tail passed_here.0

    same : last_of m u ≡ last_of m t
    same = sym (tail_at (last_of m u) t behind) ∙ ap (λ j. last_of j t) passed_here.1

    pub sofar_next : Sofar t T D₀ n i k at D₁ m (l + 1)
    sofar_next = record {
      few = omega arith;
      short = omega (arith, passed_here.1, tail_short (last_of m u) t behind);
      same_length = as_long;
      kept = λ j b. other j (omega arith) ∙ s.kept j b;
      ds = s.ds ++ (it.0 ∷ []);
      count = length-append s.ds (it.0 ∷ []) ∙ ap (λ c. c + 1) s.count;
      reading =
          on ∙ taken_on s.ds (row T (label_place l)) (labels_of T (l + 1) (k - (l + 1))) (for_label T n i) u it.0 (last_of m u) it.1
          ∙ ap (λ v. giving (λ es. (s.ds ++ (it.0 ∷ [])) ++ es) (rest_of T n i (l + 1) (k - (l + 1)) v)) same;
      found = λ whole tl small room.
          let place : get_or D₁ (at + l) 0 ≡ length u % 4294967296 =
          ap (λ E. get_or E (at + l) 0) g ∙ get_or-set_same D (at + l) (left % 4294967296) 0 (omega (arith, s.same_length)) ∙ ap (λ c. c % 4294967296) (sym left_short) in
          standing_more (edition_in T).width whole D₁ at s.ds it.0 (standing_kept (edition_in T).width whole D D₁ at s.ds (λ j b. other j (omega (arith, s.count))) (s.found whole tl small room))
          (subst (λ c. Stands whole (get_or D₁ (at + c) 0) (data_words (edition_in T).width it.0)) (sym s.count) (stands_noted _ whole u D₁ (at + l) it.0 (last_of m u) (tail_on u t whole tl tail) small place it.1));
    }
