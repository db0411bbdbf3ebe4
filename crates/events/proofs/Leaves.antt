-- An event is a given term that is a leaf (document 01, refusals 10 and 11): the limits refuse no leaf where a constant has one word. And the
-- first word says whether a term is a leaf.
use mathlib.Core.Path.{◌≡◌, refl, sym, ap, ◌∙◌}
use mathlib.Core.Bool.{Bool, true, false, ◌&&◌}
use mathlib.Core.List.{List, [], ◌∷◌}
use mathlib.Core.Option.{Option, none, some, some-injective, none-ne-some}
use Prim.Native.Nat.{ℕ, ◌≤◌}
use native.Mathlib.Omega.{arith}
use lib.Dec.{leb}
use lib.ListN.{get_or}
use Rattle.eb3.specs.Terms.{Term, Done, Internal, Perform, Sequence, Choice, Star, Parallel, Guard, VisibleAction, Action, internal}
use Rattle.eb3.specs.RuleSets.{RuleSet}
use Rattle.eb3.specs.Sizes.{reach, breadth}
use Rattle.eb3.specs.Spelling.{words}
use Rattle.eb3.specs.WellFormedness.{Form}
use Rattle.eb3.specs.Reading.{Read, refused, taken, pick}
use Rattle.eb3.specs.TermReading.{read_term, term_alone, given_term, term_of_action, leaf_of, leaf_alone, given_event}
use Rattle.eb3.proofs.Laws.TermReading.{given_term_exact, given_event_exact}
use Rattle.events.proofs.Small.{leaf_running}

-- ── events and given terms ──

unfoldable pub event_of : Option Term → Option Action
event_of none = none
event_of (some E) = leaf_of E

picked : (b : Bool) (E F : Term) → pick b (some F) none ≡ some E → F ≡ E
picked true E F e = some-injective F E e
picked false E F e = absurd (none-ne-some E e)

alone_leaf : (w : ℕ) (r : Read Term) (E : Term) → term_alone w r ≡ some E → leaf_alone r ≡ leaf_of E
alone_leaf w (refused k) E e = absurd (none-ne-some E e)
alone_leaf w (taken F []) E e = ap leaf_of (picked (leb (reach w F) 8192 && leb (breadth F) 65535) E F e)
alone_leaf w (taken F (x ∷ t)) E e = absurd (none-ne-some E e)

module _ (R : RuleSet) (form : Form R) (one : R.edition.width ≡ 1) (s : List ℕ) where
  positive : 1 ≤ R.edition.width
  positive = form.proper.constants.0

  leaf_read : (E : Term) → given_term R s ≡ some E → given_event R s ≡ leaf_of E
  unfolding given_term given_event
  leaf_read E e = alone_leaf R.edition.width (read_term R s) E e

  pub event_is_leaf : given_event R s ≡ event_of (given_term R s)
  unfolding event_of
  event_is_leaf = go (given_term R s) (given_event R s) refl refl
    where
      go : (o : Option Term) (p : Option Action) → given_term R s ≡ o → given_event R s ≡ p → p ≡ event_of o
      go none none e f = refl
      go none (some ρ) e f =
          let x = (given_event_exact R positive s ρ).0 f in
          absurd (none-ne-some (term_of_action ρ) (sym e ∙ (given_term_exact R positive s (term_of_action ρ)).1 (x.0, leaf_running R form one ρ x.1)))
      go (some E) p e f = sym f ∙ leaf_read E e

-- ── the first word ──

pub internal_first : (w : ℕ) (E : Term) → get_or (words w E) 0 0 ≡ 20 → leaf_of E ≡ some internal
unfolding words
internal_first w Done e = absurd (let z : ⊥ = omega arith in z)
internal_first w Internal e = refl
internal_first w (Perform a) e = absurd (let z : ⊥ = omega arith in z)
internal_first w (Sequence E F) e = absurd (let z : ⊥ = omega arith in z)
internal_first w (Choice E F) e = absurd (let z : ⊥ = omega arith in z)
internal_first w (Star E) e = absurd (let z : ⊥ = omega arith in z)
internal_first w (Parallel Δ E F) e = absurd (let z : ⊥ = omega arith in z)
internal_first w (Guard C E) e = absurd (let z : ⊥ = omega arith in z)

pub action_first : (w : ℕ) (E : Term) → get_or (words w E) 0 0 ≡ 21 → (a : VisibleAction) × (E ≡ Perform a)
unfolding words
action_first w Done e = absurd (let z : ⊥ = omega arith in z)
action_first w Internal e = absurd (let z : ⊥ = omega arith in z)
action_first w (Perform a) e = (a, refl)
action_first w (Sequence E F) e = absurd (let z : ⊥ = omega arith in z)
action_first w (Choice E F) e = absurd (let z : ⊥ = omega arith in z)
action_first w (Star E) e = absurd (let z : ⊥ = omega arith in z)
action_first w (Parallel Δ E F) e = absurd (let z : ⊥ = omega arith in z)
action_first w (Guard C E) e = absurd (let z : ⊥ = omega arith in z)

pub other_first : (w : ℕ) (E : Term) → (get_or (words w E) 0 0 ≡ 20 → ⊥) → (get_or (words w E) 0 0 ≡ 21 → ⊥) → leaf_of E ≡ none
unfolding words
other_first w Done h k = refl
other_first w Internal h k = absurd (h refl)
other_first w (Perform a) h k = absurd (k refl)
other_first w (Sequence E F) h k = refl
other_first w (Choice E F) h k = refl
other_first w (Star E) h k = refl
other_first w (Parallel Δ E F) h k = refl
other_first w (Guard C E) h k = refl
