-- Move and Present, case by case: refused as the rule set, the term or the event is, refused for want of space, or what a choice among the listed moves gives
-- (document 01, "Operations").
use Rattle.std.proofs.Math.Path.{◌≡◌, refl, ap, subst}
use Rattle.std.proofs.Common.{sym, ◌∙◌, arith, le-leb}
use Rattle.std.specs.Prelude.{Bool, ◌&&◌, List, ℕ, ◌≤◌, ◌<◌, Err, Result, Some, None}
use Rattle.std.proofs.Math.Bool.{true, false}
use Rattle.std.proofs.Math.Option.{Option as Maybe, none, some}
use Rattle.std.proofs.Math.ListN.{get_elem?}
use Rattle.std.proofs.lemmas.Bool.{lt-leb}
use Rattle.eb3.specs.Refusal
use Rattle.eb3.specs.Terms.{Term, Action}
use Rattle.eb3.specs.Moves.{Move}
use Rattle.eb3.specs.RuleSets.{RuleSet}
use Rattle.eb3.specs.WellFormedness.{Form}
use Rattle.eb3.specs.Reading.{pick}
use Rattle.eb3.specs.TermReading.{given_event}
use Rattle.eb3.proofs.Laws.TermReading.{given_event_exact}
use Rattle.eb3.specs.Admission.{admission}
use Rattle.eb3.specs.Sizes.{reach}
use Rattle.eb3.specs.Bytes.{words_in, word_count}
use Rattle.eb3.specs.Memory.{cell_room}
use Rattle.eb3.specs.Answers.{Answer, refused, answered, and_then, Moved as Answer_moved, Written, unwritten}
use Rattle.eb3.specs.Operations.{cells_needed, term_fits, memory_fits, even, term_in, event_in, listed, at_first, choice_by_number, choice_by_event, stepped_from, writing, moved, move, present}
use Rattle.eb3.specs.Answers.{or_refused}
use Rattle.actions.specs.Codes.{action_code, Small}
use Rattle.actions.specs.Laws.Actions.{action_small}
use Rattle.std.specs.Borrow.{Bor}
use Rattle.given.specs.declared.asking.Request.{Request}
use Rattle.given.specs.declared.asking.Request.TheVariants.{Move as Move_of, Event as Event_of}
use Rattle.given.specs.declared.asking.Wanted.{Wanted}
use Rattle.given.specs.declared.asking.Wanted.TheVariants.{Number as Number_of, Action as Action_of}
use Rattle.given.specs.Asking.{asked_of, event_asked, asked_as, Chooses}
use Rattle.engine.specs.Stepping.{moved_as, Done, stepped}
use Rattle.refusals.specs.declared.Refusal.{Refusal}
use Rattle.refusals.specs.declared.Refusal.TheVariants.{Space, Stranger}
use Rattle.refusals.specs.Numbers.{refusal}
use Rattle.engine.specs.declared.stepping.Step.{Step}

-- ── one operation ──

module _ (rules term memory : List ℕ) (next_term next_memory : List ℕ) where
  -- what is answered from the term can be answered from the rule set and the term
  both_known : (f : RuleSet → Term → Written Answer_moved) (R : RuleSet) (a : Answer Term)
      → (writing next_term next_memory a λ E. f R E) ≡ (writing {X = RuleSet × Term} next_term next_memory (and_then a λ E. answered (R, E)) λ p. f p.0 p.1)
  unfolding and_then
  both_known f R (refused k) = refl
  both_known f R (answered E) = refl

  from_admitted : (f : RuleSet → Term → Written Answer_moved) (a : Answer RuleSet)
      → (writing next_term next_memory a λ R. writing next_term next_memory (term_in R term) λ E. f R E)
      ≡ (writing {X = RuleSet × Term} next_term next_memory (and_then a λ R. and_then (term_in R term) λ E. answered (R, E)) λ p. f p.0 p.1)
  unfolding and_then
  from_admitted f (refused k) = refl
  from_admitted f (answered R) = both_known f R (term_in R term)

  pub move_stepped : (k : ℕ) → move rules term memory k next_term next_memory ≡ stepped rules term memory (Move_of k) next_term next_memory
  unfolding move stepped asked_of
  move_stepped k = from_admitted (λ R E. stepped_from R E memory next_term next_memory (choice_by_number k)) (admission rules)

  pub present_stepped : (event : Bor (List ℕ)) → present rules term memory event.now next_term next_memory ≡ stepped rules term memory (Event_of event) next_term next_memory
  unfolding present stepped asked_of
  present_stepped event = from_admitted (λ R E. stepped_from R E memory next_term next_memory (choice_by_event R event.now)) (admission rules)

-- ── what is asked for ──

-- An event that is none is refused 11.
stranger_number : (b : Bool) (o : Maybe Action) (j : ℕ) → pick b (or_refused Refusal.stranger o) (refused Refusal.stranger) ≡ refused j → j ≡ Refusal.stranger
stranger_number true none j e = let z : Refusal.stranger ≡ j = cc in sym z
stranger_number true (some ρ) j e = absurd (let z : ◌≡◌ {A = ℕ} 0 1 = cc in omega arith)
stranger_number false o j e = let z : Refusal.stranger ≡ j = cc in sym z

module _ (R : RuleSet) (form : Form R) where
  event_so : (event : List ℕ) (ρ : Action) → event_in R event ≡ answered ρ → Small ρ
  event_so event ρ e = go (even event) (given_event R (words_in event)) refl e
    where
      go : (b : Bool) (o : Maybe Action) → given_event R (words_in event) ≡ o → pick b (or_refused Refusal.stranger o) (refused Refusal.stranger) ≡ answered ρ → Small ρ
      go true none q f = absurd (let z : ◌≡◌ {A = ℕ} 0 1 = cc in omega arith)
      go true (some σ) q f =
          let h : σ ≡ ρ = cc in
          subst Small h (action_small R form σ ((given_event_exact R form.proper.constants.0 (words_in event) σ).0 q).1)
      go false o q f = absurd (let z : ◌≡◌ {A = ℕ} 0 1 = cc in omega arith)

  pub asked_stranger : (request : Request) → None ≡ asked_as request R → asked_of request R ≡ refused Refusal.stranger
  unfolding asked_of event_asked and_then
  asked_stranger (Move_of k) e = absurd (let z : ◌≡◌ {A = ℕ} 0 1 = cc in omega arith)
  asked_stranger (Event_of event) e = go (event_in R event.now) refl e
    where
      go : (a : Answer Action) → event_in R event.now ≡ a → None ≡ event_asked a → (and_then a λ ρ. answered (at_first ρ)) ≡ refused Refusal.stranger
      go (refused j) q f = ap refused (stranger_number (even event.now) (given_event R (words_in event.now)) j q)
      go (answered ρ) q f = absurd (let z : ◌≡◌ {A = ℕ} 0 1 = cc in omega arith)

  -- A choice that is wanted, by what means it.
  pub record Choosing (request : Request) (wanted : Wanted) : Type 0 where
    pub choose : List Move → Maybe Move
    pub asked_so : asked_of request R ≡ answered choose
    pub chooses : Chooses wanted choose

  pub asked_wanted : (request : Request) (wanted : Wanted) → Some wanted ≡ asked_as request R → Choosing request wanted
  unfolding asked_of event_asked and_then
  asked_wanted (Move_of k) wanted e =
      let z : wanted ≡ Number_of k = cc in
      record { choose = λ xs. get_elem? xs k; asked_so = refl; chooses = subst (λ w. Chooses w (λ xs. get_elem? xs k)) (sym z) refl }
  asked_wanted (Event_of event) wanted e = go (event_in R event.now) refl e
    where
      go : (a : Answer Action) → event_in R event.now ≡ a → Some wanted ≡ event_asked a → Choosing (Event_of event) wanted
      go (refused j) q f = absurd (let z : ◌≡◌ {A = ℕ} 0 1 = cc in omega arith)
      go (answered ρ) q f =
          let z : wanted ≡ Action_of (action_code ρ) = cc in
          record {
            choose = at_first ρ;
            asked_so = ap (λ a. and_then a λ σ. answered (at_first σ)) q;
            chooses = subst (λ w. Chooses w (at_first ρ)) (sym z) (ρ, event_so event.now ρ q, refl, refl);
          }

-- ── by the room there is ──

module _ (R : RuleSet) (E : Term) (memory next_term next_memory : List ℕ) (request : Request) where
  abbrev given : Written Answer_moved
  given = stepped_from R E memory next_term next_memory (asked_of request R)

  pub stranger_done : asked_of request R ≡ refused Refusal.stranger → Done given (Err Stranger) next_term next_memory
  unfolding moved_as refusal
  stranger_done e =
      let f : given ≡ unwritten next_term next_memory Refusal.stranger = ap (stepped_from R E memory next_term next_memory) e in
      subst (λ w. Done w (Err Stranger) next_term next_memory) (sym f) (record { answer = refl; term_after = refl; memory_after = refl })

  module _ (choose : List Move → Maybe Move) (e : asked_of request R ≡ answered choose) where
    abbrev choice : Written Answer_moved
    choice = writing next_term next_memory (or_refused Refusal.not_offered (choose (listed R E memory))) (moved R memory next_term next_memory)

    by_room : (b c d : Bool) → term_fits (reach R.edition.width E) next_term ≡ b → memory_fits R memory ≡ c → memory_fits R next_memory ≡ d → given ≡ pick (b && (c && d)) choice (unwritten next_term next_memory Refusal.space)
    by_room b c d p q r =
        ap (stepped_from R E memory next_term next_memory) e
        ∙ (λ i. pick (p i && (q i && r i)) choice (unwritten next_term next_memory Refusal.space))

    lacking : given ≡ unwritten next_term next_memory Refusal.space → Done given (Err Space) next_term next_memory
    unfolding moved_as refusal
    lacking f = subst (λ w. Done w (Err Space) next_term next_memory) (sym f) (record { answer = refl; term_after = refl; memory_after = refl })

    pub short_term : word_count next_term < reach R.edition.width E → Done given (Err Space) next_term next_memory
    short_term h = lacking (by_room false (memory_fits R memory) (memory_fits R next_memory) (lt-leb (reach R.edition.width E) (word_count next_term) h) refl refl)

    pub short_memory : reach R.edition.width E ≤ word_count next_term → cell_room memory < cells_needed R → Done given (Err Space) next_term next_memory
    short_memory h l =
        lacking (by_room true false (memory_fits R next_memory) (le-leb (reach R.edition.width E) (word_count next_term) h) (lt-leb (cells_needed R) (cell_room memory) l) refl)

    pub short_next_memory : reach R.edition.width E ≤ word_count next_term → cells_needed R ≤ cell_room memory → cell_room next_memory < cells_needed R → Done given (Err Space) next_term next_memory
    short_next_memory h l m =
        lacking (by_room true true false (le-leb (reach R.edition.width E) (word_count next_term) h) (le-leb (cells_needed R) (cell_room memory) l) (lt-leb (cells_needed R) (cell_room next_memory) m))

    pub with_room : reach R.edition.width E ≤ word_count next_term → cells_needed R ≤ cell_room memory → cells_needed R ≤ cell_room next_memory → (r : Result Step Refusal) (term' memory' : List ℕ)
        → Done choice r term' memory' → Done given r term' memory'
    with_room h l m r term' memory' d =
        subst (λ w. Done w r term' memory')
        (sym (by_room true true true (le-leb (reach R.edition.width E) (word_count next_term) h) (le-leb (cells_needed R) (cell_room memory) l) (le-leb (cells_needed R) (cell_room next_memory) m))) d
