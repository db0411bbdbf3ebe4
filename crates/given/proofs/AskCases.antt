-- A case for each way that the reading of a given event returns (document 01, refusal 11).
use mathlib.Core.Path.{◌≡◌, refl, ap, sym, ◌∙◌}
use mathlib.Core.Bool.{Bool, true, false}
use mathlib.Core.List.{List}
use mathlib.Core.Option.{Option as Optional, none, some}
use Rattle.std.specs.Prelude.{Option, Some, None}
use Prim.Native.Nat.{ℕ, ◌*◌, ◌%◌, ◌≤◌, ◌<◌}
use native.Mathlib.Omega.{arith}
use lib.ListN.{length, take}
use borrow.Author.Tests.{eq-eqb, ne_eqb}
use Rattle.eb3.specs.Refusal
use Rattle.eb3.specs.Terms.{Action, Perform, internal, visible}
use Rattle.eb3.specs.Sizes.{arguments_size, size}
use Rattle.eb3.proofs.Laws.Sizes.{arguments_double}
use Rattle.eb3.proofs.Laws.Elements.{arguments_two}
use Rattle.eb3.specs.Spelling.{words}
use Rattle.eb3.proofs.Laws.Spelling.{words_length}
use Rattle.eb3.specs.Bytes.{words_in, word_count}
use Rattle.eb3.proofs.Laws.Bytes.{words_counted}
use Rattle.eb3.specs.Reading.{pick}
use Rattle.eb3.specs.RuleSets.{RuleSet}
use Rattle.eb3.specs.WellFormedness.{Form, WellFormedAction}
use Rattle.eb3.specs.TermReading.{term_of_action, given_event}
use Rattle.eb3.proofs.Laws.TermReading.{given_event_exact}
use Rattle.eb3.specs.Answers.{refused}
use Rattle.eb3.specs.Operations.{even, event_in}
use Rattle.eb3.specs.Answers.{or_refused}
use Rattle.tables.specs.Laws.Editions.{width_in_tables}
use Rattle.declarations.specs.Declaring.{Declares}
use Rattle.cells.specs.Preparing.{Loaded}
use Rattle.cells.specs.Laws.Memory.{loaded_words}
use Rattle.actions.specs.Codes.{action_code}
use Rattle.events.specs.Events.{event_as}
use Rattle.given.specs.declared.asking.Wanted.{Wanted}
use Rattle.given.specs.declared.asking.Wanted.TheVariants.{Action as Action_of}
use Rattle.given.specs.Asking.{event_asked}

-- ── an event is short where a constant has one word ──

module _ (R : RuleSet) (form : Form R) (one : R.edition.width ≡ 1) where
  -- A code, a label, and two arguments at most.
  leaf_short : (ρ : Action) → WellFormedAction R ρ → length (words R.edition.width (term_of_action ρ)) ≤ 6
  unfolding size words
  leaf_short internal h = omega arith
  leaf_short (visible a) h =
      let n : ℕ = length a.arguments in
      let e : arguments_size R.edition.width n ≡ 2 * n = ap (λ w. arguments_size w n) one ∙ arguments_double n in
      omega (arith, words_length R (Perform a) h, e, arguments_two R form a h)

  long_stranger : (s : List ℕ) → 6 < length s → given_event R s ≡ none
  long_stranger s h = go (given_event R s) refl
    where
      go : (o : Optional Action) → given_event R s ≡ o → given_event R s ≡ none
      go none e = e
      go (some ρ) e =
          let p = (given_event_exact R form.proper.constants.0 s ρ).0 e in
          absurd (let z : ⊥ = omega (arith, ap length p.0, leaf_short ρ p.1) in z)

-- ── what the reading says ──

stranger_from : (o : Optional Action) → None ≡ event_as o → o ≡ none
unfolding event_as
stranger_from none e = refl
stranger_from (some ρ) e = absurd (let z : ◌≡◌ {A = ℕ} 0 1 = cc in omega arith)

action_from : (o : Optional Action) (code : ℕ) → Some code ≡ event_as o → (ρ : Action) × (o ≡ some ρ) × (code ≡ action_code ρ)
unfolding event_as
action_from none code e = absurd (let z : ◌≡◌ {A = ℕ} 0 1 = cc in omega arith)
action_from (some ρ) code e = (ρ, refl, cc)

module _ (event : List ℕ) (R : RuleSet) where
  -- What is asked for, where the number of bytes is even or odd.
  asked_at : Bool → Option Wanted
  asked_at b = event_asked (pick b (or_refused Refusal.stranger (given_event R (words_in event))) (refused Refusal.stranger))

  odd_stranger : (length event % 2 ≡ 0 → ⊥) → None ≡ event_asked (event_in R event)
  unfolding event_asked asked_at
  odd_stranger h = sym (ap asked_at (ne_eqb (length event % 2) 0 h))

  -- Words that are no event are none with an odd byte after them either.
  none_asked : given_event R (words_in event) ≡ none → None ≡ event_asked (event_in R event)
  unfolding event_asked asked_at
  none_asked e = go (even event)
    where
      go : (b : Bool) → None ≡ asked_at b
      go true = sym (ap (λ o. event_asked (or_refused Refusal.stranger o)) e)
      go false = refl

  some_asked : length event % 2 ≡ 0 → (code z : ℕ) → Some code ≡ event_as (given_event R (words_in event)) → z ≡ code → Some (Action_of z) ≡ event_asked (event_in R event)
  unfolding event_asked asked_at
  some_asked ev code z e ez =
      let p = action_from (given_event R (words_in event)) code e in
      ap (λ x. Some (Action_of x)) (ez ∙ p.2) ∙ sym (ap asked_at (eq-eqb (length event % 2) 0 ev) ∙ ap (λ o. event_asked (or_refused Refusal.stranger o)) p.1)

-- ── the ways of returning ──

module _ (T event : List ℕ) where
  -- What is asked for by the event, at each rule set that the tables declare.
  abbrev EventAsked : Option Wanted → Type 0
  EventAsked r = (R : RuleSet) → Form R → Declares T R → r ≡ event_asked (event_in R event)

  pub asked_odd : (length event % 2 ≡ 0 → ⊥) → EventAsked None
  asked_odd h R form d = odd_stranger event R h

  pub asked_long : 6 < word_count event → EventAsked None
  asked_long h R form d = none_asked event R (long_stranger R form (width_in_tables T R d.same_edition) (words_in event) (omega (arith, words_counted event)))

  -- The words loaded into an array with room for them, and what was said of its first part.
  module _ (M M' s : List ℕ) (room : word_count event ≤ length M) (l : Loaded event M M' 0 (word_count event)) (es : s ≡ take (word_count event) M') (g : Option ℕ) (told : (R : RuleSet) → Form R → Declares T R → g ≡ event_as (given_event R s)) where
    told_event : (R : RuleSet) → Form R → Declares T R → g ≡ event_as (given_event R (words_in event))
    told_event R form d = told R form d ∙ ap (λ u. event_as (given_event R u)) (es ∙ loaded_words event M M' (word_count event) refl room l)

    pub asked_stranger : g ≡ None → EventAsked None
    asked_stranger f R form d = none_asked event R (stranger_from (given_event R (words_in event)) (sym f ∙ told_event R form d))

    pub asked_action : length event % 2 ≡ 0 → (code z : ℕ) → g ≡ Some code → z ≡ code → EventAsked (Some (Action_of z))
    asked_action ev code z f ez R form d = some_asked event R ev code z (sym f ∙ told_event R form d) ez
