-- A case for each way that the reading of an event returns; the premises have the form of the facts known there, so that `search` finds them.
use mathlib.Core.Path.{◌≡◌, refl, sym, ap, ◌∙◌, subst}
use mathlib.Core.List.{List, [], ◌∷◌, append-nil}
use mathlib.Core.Option.{Option as Optional, none, some}
use Rattle.std.specs.Prelude.{Option, Some, None}
use Prim.Native.Nat.{ℕ}
use native.Mathlib.Omega.{arith}
use lib.ListN.{drop, get_or}
use Rattle.eb3.specs.Terms.{Term, Perform, VisibleAction, visible}
use Rattle.eb3.specs.RuleSets.{RuleSet}
use Rattle.eb3.specs.Spelling.{arguments_words, words}
use Rattle.eb3.specs.WellFormedness.{Form, Running as RunningTerm}
use Rattle.eb3.specs.TermReading.{given_term, leaf_of, given_event}
use Rattle.eb3.proofs.Laws.TermReading.{given_term_exact}
use Rattle.tables.specs.Tables.{edition_in, declared}
use Rattle.tables.specs.Laws.Editions.{width_in_tables}
use Rattle.declarations.specs.Declaring.{Declares}
use Rattle.declarations.specs.Laws.Declaring.{declared_alike}
use Rattle.term_check.specs.declared.Given.{Given}
use Rattle.term_check.specs.Given.{given}
use Rattle.term_check.specs.Laws.Alike.{given_term_alike}
use Rattle.actions.specs.Codes.{action_code, ActionAt}
use Rattle.actions.specs.Laws.Actions.{action_small}
use Rattle.events.specs.Events.{event_as}
use Rattle.events.proofs.Leaves.{event_of, event_is_leaf, internal_first, action_first, other_first}

-- Which answers are those of a running term.
abbrev Runs : Option Given → Type 0
Runs (Some g) = Unit
Runs None = ⊥

module _ (T s : List ℕ) (R : RuleSet) (form : Form R) (d : Declares T R) where
  one_word : R.edition.width ≡ 1
  one_word = width_in_tables T R d.same_edition

  -- The tables read a given term as the rule set does.
  at_rules : (g : Option Given) → g ≡ given (edition_in T).width (given_term (declared T) s) → g ≡ given R.edition.width (given_term R s)
  at_rules g e = e ∙ (λ i. given (sym d.same_edition i).width (given_term_alike (declared T) R (declared_alike T R d) s i))

  -- No term is no event.
  none_given : None ≡ given R.edition.width (given_term R s) → given_event R s ≡ none
  unfolding given event_of
  none_given e = event_is_leaf R form one_word s ∙ go (given_term R s) e
    where
      go : (o : Optional Term) → None ≡ given R.edition.width o → event_of o ≡ none
      go none f = refl
      go (some E) f = absurd (subst Runs (sym f) tt)

  -- A term that the words spell, and the event that it is.
  record Spelt (E : Term) : Type 0 where
    pub spelled : s ≡ words R.edition.width E
    pub running : RunningTerm R E
    pub event : given_event R s ≡ leaf_of E

  some_given : (x : Given) → Some x ≡ given R.edition.width (given_term R s) → (E : Term) × Spelt E
  unfolding given event_of
  some_given x e = go (given_term R s) refl
    where
      go : (o : Optional Term) → given_term R s ≡ o → (E : Term) × Spelt E
      go none f = absurd (subst Runs (e ∙ ap (given R.edition.width) f) tt)
      go (some E) f =
          let z : (s ≡ words R.edition.width E) × RunningTerm R E = (given_term_exact R form.proper.constants.0 s E).0 f in
          (E, record { spelled = z.0; running = z.1; event = event_is_leaf R form one_word s ∙ ap event_of f })

  module _ (E : Term) (t : Spelt E) where
    internal_event : get_or s 0 0 ≡ 20 → Some 0 ≡ event_as (given_event R s)
    unfolding event_as action_code
    internal_event w = sym (ap event_as (t.event ∙ internal_first R.edition.width E (sym (ap (λ u. get_or u 0 0) t.spelled) ∙ w)))

    other_event : (get_or s 0 0 ≡ 20 → ⊥) → (get_or s 0 0 ≡ 21 → ⊥) → None ≡ event_as (given_event R s)
    unfolding event_as
    other_event h k = sym (ap event_as (t.event ∙ other_first R.edition.width E (λ w. h (ap (λ u. get_or u 0 0) t.spelled ∙ w)) (λ w. k (ap (λ u. get_or u 0 0) t.spelled ∙ w))))

  action_there : (a : VisibleAction) → Spelt (Perform a) → ActionAt (drop 1 s) a []
  unfolding words
  action_there a t = record {
    small = action_small R form (visible a) t.running.form;
    spelled = ap (drop 1) t.spelled ∙ ap (λ u. a.label ∷ u) (ap (λ w. arguments_words w a.arguments) one_word ∙ sym (append-nil (arguments_words 1 a.arguments)));
    closed = λ z. let w : ⊥ = omega arith in w;
  }

  action_event : (E : Term) → Spelt E → get_or s 0 0 ≡ 21 → (code : ℕ) → ((a : VisibleAction) (rest : List ℕ) → ActionAt (drop 1 s) a rest → code ≡ action_code (visible a)) → Some code ≡ event_as (given_event R s)
  unfolding event_as
  action_event E t w code h = go (action_first R.edition.width E (sym (ap (λ u. get_or u 0 0) t.spelled) ∙ w))
    where
      go : (a : VisibleAction) × (E ≡ Perform a) → Some code ≡ event_as (given_event R s)
      go x =
          let u : Spelt (Perform x.0) = subst Spelt x.1 t in
          ap Some (h x.0 [] (action_there x.0 u)) ∙ sym (ap event_as u.event)

-- ── the ways of returning ──

module _ (T s : List ℕ) (g : Option Given) (e : g ≡ given (edition_in T).width (given_term (declared T) s)) where
  pub given_none : g ≡ None → (R : RuleSet) → Form R → Declares T R → None ≡ event_as (given_event R s)
  unfolding event_as
  given_none f R form d = sym (ap event_as (none_given T s R form d (sym f ∙ at_rules T s R form d g e)))

  module _ (y : Given) (f : g ≡ Some y) (w : ℕ) (h : w ≡ get_or s 0 0) where
    term_given : (R : RuleSet) (form : Form R) (d : Declares T R) → (E : Term) × Spelt T s R form d E
    term_given R form d = some_given T s R form d y (sym f ∙ at_rules T s R form d g e)

    pub given_internal : w ≡ 20 → (R : RuleSet) → Form R → Declares T R → Some 0 ≡ event_as (given_event R s)
    given_internal k R form d = let x : (E : Term) × Spelt T s R form d E = term_given R form d in internal_event T s R form d x.0 x.1 (sym h ∙ k)

    pub given_other : (Unit {0} × (w ≡ 20 → ⊥)) × (w ≡ 21 → ⊥) → (R : RuleSet) → Form R → Declares T R → None ≡ event_as (given_event R s)
    given_other k R form d = let x : (E : Term) × Spelt T s R form d E = term_given R form d in other_event T s R form d x.0 x.1 (λ z. k.0.1 (h ∙ z)) (λ z. k.1 (h ∙ z))

    pub given_action : w ≡ 21 → (t : List ℕ) → t ≡ drop 1 s → (code : ℕ) → ((a : VisibleAction) (rest : List ℕ) → ActionAt t a rest → code ≡ action_code (visible a))
        → (R : RuleSet) → Form R → Declares T R → Some code ≡ event_as (given_event R s)
    given_action k t i code c R form d =
        let x : (E : Term) × Spelt T s R form d E = term_given R form d in
        action_event T s R form d x.0 x.1 (sym h ∙ k) code (λ a rest z. c a rest (subst (λ u. ActionAt u a rest) (sym i) z))

pub ruleset cases = (given_none, given_internal, given_other, given_action)
