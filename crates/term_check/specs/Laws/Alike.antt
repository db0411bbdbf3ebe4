-- A running term and an event are read by the largest number, the words of a constant, domains, labels and what a guard may name: under rule sets that are
-- equal in these (`Alike`) they read the same (`given_term_alike`, `given_event_alike`).
-- Document 01, "Unfolding, size and breadth"; refusal 10.
use Rattle.std.specs.Prelude.{◌≡◌, length}
use Rattle.std.proofs.Math.Path.{refl, ap}
use Rattle.std.proofs.Common.{◌∙◌}
use mathlib.Core.List.{List, [], ◌∷◌, map}
use Prim.Native.Nat.{ℕ, zero, suc}
use Rattle.std.proofs.Math.ListN.{get_or}
use Rattle.eb3.specs.Refusal
use Rattle.eb3.specs.Terms.{Term, Parallel, Guard}
use Rattle.eb3.specs.RuleSets.{RuleSet}
use Rattle.eb3.specs.Reading.{Reader, giving, both, by_number}
use Rattle.eb3.specs.ExpressionReading.{read_cond}
use Rattle.eb3.specs.TermReading.{mask_of, elements_of, perform, TermKind, term_kind, action_of, term_by, terms, read_term, term_alone, given_term, leaf_alone, given_event}
use Rattle.eb3.proofs.Laws.Signatures.{Alike}

module _ (R Q : RuleSet) (a : Alike R Q) where
  action_alike : (t : List ℕ) → action_of R t ≡ action_of Q t
  unfolding action_of
  action_alike t = λ i. by_number Refusal.reference (length (a.same_labels i))
      (λ l u. giving (perform l) (elements_of (a.same_edition i).width (map (λ d. get_or (a.same_domains i) d 0) (get_or (a.same_labels i) l [])) u)) t

  -- One code, where the operands are read in the same way.
  by_alike : (e : Reader Term) (t : List ℕ) (k : TermKind) → term_by R e k t ≡ term_by Q e k t
  by_alike e t TermKind.internal_step = refl
  by_alike e t TermKind.action = action_alike t
  by_alike e t TermKind.star = refl
  by_alike e t TermKind.parallel = λ i. giving (λ p. Parallel p.0 p.1.0 p.1.1) (both (mask_of 4 (length (a.same_labels i))) (both e e) t)
  by_alike e t TermKind.guard = λ i. giving (λ p. Guard p.0 p.1) (both (read_cond (a.same_guards 0 i)) e t)
  by_alike e t TermKind.done = refl
  by_alike e t TermKind.wrong = refl
  by_alike e t (TermKind.pair k) = refl

  terms_alike : (n : ℕ) (s : List ℕ) → terms R n s ≡ terms Q n s
  unfolding terms
  terms_alike zero s = refl
  terms_alike (suc n) [] = refl
  terms_alike (suc n) (c ∷ t) = by_alike (terms R n) t (term_kind c) ∙ (λ i. term_by Q (λ s. terms_alike n s i) (term_kind c) t)

  pub read_term_alike : (ws : List ℕ) → read_term R ws ≡ read_term Q ws
  unfolding read_term
  read_term_alike ws = terms_alike (length ws) ws

  pub given_term_alike : (ws : List ℕ) → given_term R ws ≡ given_term Q ws
  unfolding given_term
  given_term_alike ws = λ i. term_alone (a.same_edition i).width (read_term_alike ws i)

  pub given_event_alike : (ws : List ℕ) → given_event R ws ≡ given_event Q ws
  unfolding given_event
  given_event_alike ws = ap leaf_alone (read_term_alike ws)
