-- Laws of reading running terms, over any rule set: what is left is an end of the words (`term_ends`), and the reader is its own step, since a depth
-- of more codes than words changes nothing (`term_case`).
-- Document 01, "Unfolding, size and breadth"; refusal 10.
use Prim.Native.Nat.{ℕ, zero, suc, ◌≤◌}
use Rattle.std.proofs.Common.{le_refl, le_trans, le_of_suc-le-suc, not-suc-le-zero, ◌∙◌}
use Rattle.std.specs.Prelude.{◌≡◌, eqb, ltb, length, drop, get_or}
use Rattle.std.proofs.Math.Path.{refl, ap}
use mathlib.Core.List.{List, [], ◌∷◌}
use Rattle.eb3.specs.Refusal
use Rattle.eb3.specs.Scopes.{guard_scope}
use Rattle.eb3.specs.Terms.{Term, Star, Parallel, Guard}
use Rattle.eb3.specs.RuleSets.{RuleSet, sizes_of, label, attributes}
use Rattle.eb3.specs.Reading.{Reader, refused, taken, pick, giving, then, both, number_in}
use Rattle.eb3.specs.ExpressionReading.{read_cond}
use Rattle.eb3.specs.TermReading.{mask_of, element_of, elements_of, perform, TermKind, term_kind, action_of, term_by, terms, read_term}
use Rattle.words.specs.Ends.{Ends, Same}
use Rattle.words.specs.Laws.Checking.{tail_here, giving_fine, then_fine, both_ends, step_fine, pick_fine, both_same, by_number_ends}
use Rattle.words.specs.Laws.Rows.{number_in_ends}
use Rattle.expression_check.specs.Laws.Reading.{cond_ends}
use Rattle.tables.specs.Laws.Tables.{mask_ends}

-- ── ends ──

pub element_ends : (width n : ℕ) → Ends (element_of width n)
unfolding element_of
element_ends width n [] = tt
element_ends width n (c ∷ t) =
    let f : ℕ → Reader ℕ = λ v u. pick (ltb v n) (taken v u) (refused Refusal.kind) in
    step_fine c t (pick (eqb c 1) (then (number_in width t) f) (refused Refusal.form))
    (pick_fine t (eqb c 1) (then (number_in width t) f) (refused Refusal.form)
    (then_fine f (λ v u. pick_fine u (ltb v n) (taken v u) (refused Refusal.kind) (tail_here u) tt) t (number_in width t) (number_in_ends width t)) tt)

pub elements_end : (width : ℕ) (ns : List ℕ) → Ends (elements_of width ns)
unfolding elements_of
elements_end width [] t = tail_here t
elements_end width (n ∷ ns) t =
    giving_fine (λ p. p.0 ∷ p.1) t (both (element_of width n) (elements_of width ns) t)
    (both_ends (element_of width n) (elements_of width ns) (element_ends width n) (elements_end width ns) t)

module _ (R : RuleSet) where
  pub action_ends : Ends (action_of R)
  unfolding action_of
  action_ends = by_number_ends 5 (length R.labels) (λ l u. giving (perform l) (elements_of R.edition.width (sizes_of R (label R l)) u))
      (λ l u. giving_fine (perform l) u (elements_of R.edition.width (sizes_of R (label R l)) u) (elements_end R.edition.width (sizes_of R (label R l)) u))

  abbrev masks : Reader (List ℕ)
  masks = mask_of 4 (length R.labels)

  -- Of a reader of operands that reads to an end.
  module _ (e : Reader Term) (d : Ends e) where
    by_ends : (k : TermKind) → Ends (term_by R e k)
    by_ends TermKind.internal_step t = tail_here t
    by_ends TermKind.action t = action_ends t
    by_ends (TermKind.pair k) t = giving_fine (λ p. k p.0 p.1) t (both e e t) (both_ends e e d d t)
    by_ends TermKind.star t = giving_fine Star t (e t) (d t)
    by_ends TermKind.parallel t = giving_fine (λ p. Parallel p.0 p.1.0 p.1.1) t (both masks (both e e) t) (both_ends masks (both e e) (mask_ends 4 (length R.labels)) (both_ends e e d d) t)
    by_ends TermKind.guard t =
        let C : Reader _ = read_cond (guard_scope (attributes R) 0) in
        giving_fine (λ p. Guard p.0 p.1) t (both C e t) (both_ends C e (cond_ends (guard_scope (attributes R) 0)) d t)
    by_ends TermKind.done t = tail_here t
    by_ends TermKind.wrong t = tt

  terms_end : (n : ℕ) → Ends (terms R n)
  unfolding terms
  terms_end zero s = tt
  terms_end (suc n) [] = tt
  terms_end (suc n) (w ∷ t) = step_fine w t (term_by R (terms R n) (term_kind w) t) (by_ends (terms R n) (terms_end n) (term_kind w) t)

  pub term_ends : Ends (read_term R)
  unfolding read_term
  term_ends s = terms_end (length s) s

-- ── agreement ──

module _ (R : RuleSet) (e f : Reader Term) (d : Ends e) (t : List ℕ) (h : Same t e f) where
  by_same : (k : TermKind) → term_by R e k t ≡ term_by R f k t
  by_same TermKind.internal_step = refl
  by_same TermKind.action = refl
  by_same (TermKind.pair k) = ap (giving _) (both_same t e f e f d h h t (le_refl (length t)))
  by_same TermKind.star = ap (giving Star) (h t (le_refl (length t)))
  by_same TermKind.parallel =
      ap (giving _) (both_same t (masks R) (masks R) (both e e) (both f f) (mask_ends 4 (length R.labels)) (λ r le. refl) (both_same t e f e f d h h) t (le_refl (length t)))
  by_same TermKind.guard =
      let P = guard_scope (attributes R) 0 in
      ap (giving _) (both_same t (read_cond P) (read_cond P) e f (cond_ends P) (λ r le. refl) h t (le_refl (length t)))
  by_same TermKind.done = refl
  by_same TermKind.wrong = refl

module _ (R : RuleSet) where
  enough : (n m : ℕ) (s : List ℕ) → length s ≤ n → length s ≤ m → terms R n s ≡ terms R m s
  unfolding terms
  enough zero zero [] p q = refl
  enough zero (suc m) [] p q = refl
  enough (suc n) zero [] p q = refl
  enough (suc n) (suc m) [] p q = refl
  enough zero m (w ∷ t) p q = absurd (not-suc-le-zero p)
  enough (suc n) zero (w ∷ t) p q = absurd (not-suc-le-zero q)
  enough (suc n) (suc m) (w ∷ t) p q =
      by_same R (terms R n) (terms R m) (terms_end R n) t (λ r le. enough n m r (le_trans le (le_of_suc-le-suc p)) (le_trans le (le_of_suc-le-suc q))) (term_kind w)

  to_whole : (t : List ℕ) → Same t (terms R (length t)) (read_term R)
  unfolding read_term
  to_whole t r le = enough (length t) (length r) r le (le_refl (length r))

  -- The code at the beginning says by which case the whole term is read.
  pub term_case : (s : List ℕ) (k : TermKind) → (length s ≡ 0 → ⊥) → term_kind (get_or s 0 0) ≡ k → read_term R s ≡ term_by R (read_term R) k (drop 1 s)
  unfolding read_term terms
  term_case [] k h e = absurd (h refl)
  term_case (w ∷ t) k h e = by_same R (terms R (length t)) (read_term R) (terms_end R (length t)) t (to_whole t) (term_kind w) ∙ ap (λ j. term_by R (read_term R) j t) e
