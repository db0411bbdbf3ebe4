-- Running terms and events read from words (document 01, "Unfolding, size and breadth": codes 20 to 26 without variables, and 30; refusals 10
-- and 11). `given_term` and `given_event` accept exactly the spellings of running terms and leaves (Laws/TermReading).
use Rattle.std.specs.Prelude.{◌&&◌, List, [], ◌∷◌, ℕ, zero, suc, ◌-◌, ◌^◌, min, eqb, ltb, leb, length}
use Rattle.std.proofs.Math.Option.{Option, none, some}
use Rattle.eb3.specs.Limits
use Rattle.eb3.specs.Refusal
use Rattle.eb3.specs.Terms.{Term, Done, Internal, Perform, Sequence, Choice, Star, Parallel, Guard, Mask, Action, internal, visible}
use Rattle.eb3.specs.Scopes.{guard_scope}
use Rattle.eb3.specs.Sizes.{reach, breadth}
use Rattle.eb3.specs.RuleSets.{RuleSet, sizes_of, label, attributes}
use Rattle.eb3.specs.Reading.{Read, refused, taken, Reader, pick, giving, then, both, number_of, by_number, number_in}
use Rattle.eb3.specs.ExpressionReading.{read_cond}

-- k mask words, with bits only of the n labels that are left.
unfoldable pub mask_of : ℕ → ℕ → Reader Mask
mask_of zero n t = taken [] t
mask_of (suc k) n t = giving (λ p. p.0 ∷ p.1) (both (number_of Refusal.reference (2 ^ min n 16)) (mask_of k (n - 16)) t)

-- A constant argument: an element of a domain of n; and one for each of several domains.
unfoldable pub element_of : ℕ → ℕ → Reader ℕ
element_of width n [] = refused Refusal.form
element_of width n (c ∷ t) = pick (eqb c 1) (then (number_in width t) λ v u. pick (ltb v n) (taken v u) (refused Refusal.kind)) (refused Refusal.form)

unfoldable pub elements_of : ℕ → List ℕ → Reader (List ℕ)
elements_of width [] t = taken [] t
elements_of width (n ∷ ns) t = giving (λ p. p.0 ∷ p.1) (both (element_of width n) (elements_of width ns) t)

abbrev pub perform : ℕ → List ℕ → Term
perform l vs = Perform (record { label = l; arguments = vs })

pub data TermKind : Type 0 where
  internal_step action star parallel guard done wrong : TermKind
  pair : (Term → Term → Term) → TermKind

abbrev pub term_kind : ℕ → TermKind
term_kind c =
    pick (eqb c 20) internal_step
    (pick (eqb c 21) action
    (pick (eqb c 22) (pair Sequence)
    (pick (eqb c 23) (pair Choice)
    (pick (eqb c 24) star
    (pick (eqb c 25) parallel
    (pick (eqb c 26) guard
    (pick (eqb c 30) done
    wrong)))))))

module _ (R : RuleSet) where
  unfoldable pub action_of : Reader Term
  action_of t = by_number Refusal.reference (length R.labels) (λ l u. giving (perform l) (elements_of R.edition.width (sizes_of R (label R l)) u)) t

  abbrev pub term_by : Reader Term → TermKind → Reader Term
  term_by e TermKind.internal_step t = taken Internal t
  term_by e TermKind.action t = action_of t
  term_by e (TermKind.pair k) t = giving (λ p. k p.0 p.1) (both e e t)
  term_by e TermKind.star t = giving Star (e t)
  term_by e TermKind.parallel t = giving (λ p. Parallel p.0 p.1.0 p.1.1) (both (mask_of 4 (length R.labels)) (both e e) t)
  term_by e TermKind.guard t = giving (λ p. Guard p.0 p.1) (both (read_cond (guard_scope (attributes R) 0)) e t)
  term_by e TermKind.done t = taken Done t
  term_by e TermKind.wrong t = refused Refusal.form

  abbrev pub term_step : Reader Term → Reader Term
  term_step e [] = refused Refusal.form
  term_step e (c ∷ t) = term_by e (term_kind c) t

  unfoldable pub terms : ℕ → Reader Term
  terms zero s = refused Refusal.form
  terms (suc n) s = term_step (terms n) s

  unfoldable pub read_term : Reader Term
  read_term s = terms (length s) s

-- Exactly one term, within 7's and 8's limits.
abbrev pub term_alone : ℕ → Read Term → Option Term
term_alone width (refused k) = none
term_alone width (taken E []) = pick (leb (reach width E) Limits.reach && leb (breadth E) Limits.breadth) (some E) none
term_alone width (taken E (w ∷ ws)) = none

unfoldable pub given_term : RuleSet → List ℕ → Option Term
given_term R ws = term_alone R.edition.width (read_term R ws)

-- Exactly one running leaf, 20 or 21.
abbrev pub term_of_action : Action → Term
term_of_action internal = Internal
term_of_action (visible a) = Perform a

abbrev pub leaf_of : Term → Option Action
leaf_of Done = none
leaf_of Internal = some internal
leaf_of (Perform a) = some (visible a)
leaf_of (Sequence E F) = none
leaf_of (Choice E F) = none
leaf_of (Star E) = none
leaf_of (Parallel Δ E F) = none
leaf_of (Guard C E) = none

abbrev pub leaf_alone : Read Term → Option Action
leaf_alone (refused k) = none
leaf_alone (taken E []) = leaf_of E
leaf_alone (taken E (w ∷ ws)) = none

unfoldable pub given_event : RuleSet → List ℕ → Option Action
given_event R ws = leaf_alone (read_term R ws)
