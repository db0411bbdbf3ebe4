-- Demand 2 is met: what Count and Move answer are the derivations of the memory semantics, one to one, in order (`demand_2_operations`).
use Rattle.std.specs.Prelude.{◌≡◌, refl, ◌&&◌, List, ℕ, ◌≤◌, length}
use Rattle.std.proofs.Math.Path.{ap}
use Rattle.std.proofs.Common.{sym, ◌∙◌, arith, le→leb}
use Rattle.std.proofs.Math.Option.{Option, none, some}
use Rattle.std.proofs.Math.ListN.{get_elem?}
use Rattle.std.proofs.lemmas.List.{length-map}
use Rattle.eb3.specs.Generic.Booleans.{T_and}
use Rattle.eb3.specs.Generic.PositionsLaws.{beyond_none}
use Rattle.eb3.specs.Refusal
use Rattle.eb3.specs.Terms.{Term, Action}
use Rattle.eb3.specs.Moves.{Move, first_with}
use Rattle.eb3.specs.Derivations.{Derivation}
use Rattle.eb3.specs.Semantics.{Sem_M, Situation, situation, transition, system, concluded}
use Rattle.eb3.specs.TransitionSystems.{Transition}
use Rattle.eb3.proofs.Laws.TransitionSystems.{getElem?_unmap}
use Rattle.eb3.proofs.Laws.Semantics.{demand_2_memory}
use Rattle.eb3.specs.Sizes.{size, reach}
use Rattle.eb3.proofs.Laws.Sizes.{moves_below_breadth}
use Rattle.eb3.specs.RuleSets.{RuleSet, attributes}
use Rattle.eb3.specs.Spelling.{words}
use Rattle.eb3.specs.Reading.{pick}
use Rattle.eb3.proofs.Laws.Reading.{pick_true}
use Rattle.eb3.specs.Bytes.{word_count, written}
use Rattle.eb3.specs.Memory.{cell_room, memory_words}
use Rattle.eb3.specs.Answers.{answered, and_then, Moved, Written, unwritten}
use Rattle.eb3.specs.Admission.{admission}
use Rattle.eb3.specs.Operations.{cells_needed, term_fits, memory_fits, term_in, event_in, cells_given, listed, numbered, at_first, writing, counted_at, stepped_from, choice_by_event, moved, chosen, count, move, present}
use Rattle.eb3.specs.Answers.{or_refused}
use Rattle.eb3.specs.Demands.{cells_now, derived_result, Demand2, Demand2Holds}

module _ (rules term memory : List ℕ) (R : RuleSet) (E : Term) (a : admission rules ≡ answered R) (given : term_in R term ≡ answered E) where
  -- Past the tests of the rule set and the term.
  move_past : (k : ℕ) (next_term next_memory : List ℕ) → move rules term memory k next_term next_memory ≡ chosen R E memory next_term next_memory (λ xs. get_elem? xs k)
  unfolding move
  move_past k next_term next_memory =
      ap (λ x. writing next_term next_memory x λ R. writing next_term next_memory (term_in R term) λ E. chosen R E memory next_term next_memory λ xs. get_elem? xs k) a
      ∙ ap (λ x. writing next_term next_memory x λ E. chosen R E memory next_term next_memory λ xs. get_elem? xs k) given

  present_past : (ρ : Action) (event : List ℕ) → event_in R event ≡ answered ρ → (next_term next_memory : List ℕ)
      → present rules term memory event next_term next_memory ≡ chosen R E memory next_term next_memory (at_first ρ)
  unfolding present and_then
  present_past ρ event e next_term next_memory =
      ap (λ x. writing next_term next_memory x λ R. writing next_term next_memory (term_in R term) λ E. stepped_from R E memory next_term next_memory (choice_by_event R event)) a
      ∙ (ap (λ x. writing next_term next_memory x λ E. stepped_from R E memory next_term next_memory (choice_by_event R event)) given
      ∙ ap (λ x. stepped_from R E memory next_term next_memory (and_then x λ ρ. answered (at_first ρ))) e)

  -- What is chosen counts only by what it gives of the list.
  chosen_alike : (next_term next_memory : List ℕ) (f g : List Move → Option Move) → f (listed R E memory) ≡ g (listed R E memory)
      → chosen R E memory next_term next_memory f ≡ chosen R E memory next_term next_memory g
  chosen_alike next_term next_memory f g e = ap (λ o. pick (term_fits (reach R.edition.width E) next_term && (memory_fits R memory && memory_fits R next_memory))
      (writing next_term next_memory (or_refused Refusal.not_offered o) (moved R memory next_term next_memory)) (unwritten next_term next_memory Refusal.space)) e

  presented : (ρ : Action) (event : List ℕ) → event_in R event ≡ answered ρ → (o : Option ℕ) → first_with ρ (listed R E memory) ≡ o → (k : ℕ)
      → numbered (listed R E memory) o ≡ get_elem? (listed R E memory) k → (next_term next_memory : List ℕ)
      → present rules term memory event next_term next_memory ≡ move rules term memory k next_term next_memory
  presented ρ event e o f k h next_term next_memory = present_past ρ event e next_term next_memory
      ∙ (chosen_alike next_term next_memory (at_first ρ) (λ xs. get_elem? xs k) (ap (numbered (listed R E memory)) f ∙ h) ∙ sym (move_past k next_term next_memory))

  module _ (room : cells_needed R ≤ cell_room memory) where
    -- Past the test of space.
    move_at : (k : ℕ) (o : Option Move) → get_elem? (listed R E memory) k ≡ o → (next_term next_memory : List ℕ) → reach R.edition.width E ≤ word_count next_term → cells_needed R ≤ cell_room next_memory
        → move rules term memory k next_term next_memory ≡ writing next_term next_memory (or_refused Refusal.not_offered o) (moved R memory next_term next_memory)
    move_at k o e next_term next_memory r₁ r₂ = move_past k next_term next_memory
        ∙ (pick_true _ _ (term_fits (reach R.edition.width E) next_term && (memory_fits R memory && memory_fits R next_memory))
        (T_and (term_fits (reach R.edition.width E) next_term) (memory_fits R memory && memory_fits R next_memory) (le→leb (reach R.edition.width E) (word_count next_term) r₁)
        (T_and (memory_fits R memory) (memory_fits R next_memory) (le→leb (cells_needed R) (cell_room memory) room) (le→leb (cells_needed R) (cell_room next_memory) r₂)))
        ∙ ap (λ x. writing next_term next_memory (or_refused Refusal.not_offered x) (moved R memory next_term next_memory)) e)

    count_at : count rules term memory ≡ answered (length (listed R E memory))
    unfolding count and_then
    count_at =
        ap (λ x. and_then x λ R. and_then (term_in R term) λ E. counted_at R E memory) a
        ∙ (ap (λ x. and_then x λ E. counted_at R E memory) given
        ∙ pick_true _ _ (memory_fits R memory) (le→leb (cells_needed R) (cell_room memory) room))

    -- A transition's outcome, written.
    abbrev shown : Transition (Situation (Sem_M (attributes R))) → List ℕ → List ℕ → Written Moved
    shown x next_term next_memory = record {
      answer = answered (record { action = x.action; size = size R.edition.width x.target.term });
      term = written (words R.edition.width x.target.term) next_term;
      memory = written (memory_words x.target.state) next_memory;
    }

    moved_at : (d : Derivation (Sem_M (attributes R)) (cells_now rules term memory R E) E) (k : ℕ) → get_elem? ((system (Sem_M (attributes R))).transitions (situation E (cells_now rules term memory R E))) k ≡ some (concluded d)
        → (next_term next_memory : List ℕ) → reach R.edition.width E ≤ word_count next_term → cells_needed R ≤ cell_room next_memory
        → move rules term memory k next_term next_memory ≡ derived_result rules term memory R E d next_term next_memory
    moved_at d k e next_term next_memory r₁ r₂ =
        let u = getElem?_unmap (transition (Sem_M (attributes R)) (cells_given R memory)) (listed R E memory) k (concluded d) e in
        move_at k (some u.0) u.1 next_term next_memory r₁ r₂ ∙ ap (λ x. shown x next_term next_memory) u.2

    listed_derived : Demand2 rules term memory R E
    listed_derived = record {
      moves_listed = length (listed R E memory);
      counted = count_at;
      derivations = demand_2_memory (attributes R) (cells_given R memory) E;
      all_listed = length-map (listed R E memory) (transition (Sem_M (attributes R)) (cells_given R memory));
      moved = λ d. moved_at d ((demand_2_memory (attributes R) (cells_given R memory) E).numbers.fun d).0 ((demand_2_memory (attributes R) (cells_given R memory) E).entry d);
      no_other = λ k l. move_at k none (beyond_none (listed R E memory) k l);
      breadth_bounds = moves_below_breadth ((Sem_M (attributes R)).satisfies (cells_given R memory)) E;
      presented = λ ρ event e k f. presented ρ event e (some k) f k refl;
      not_presented = λ ρ event e f. presented ρ event e none f (length (listed R E memory)) (sym (beyond_none (listed R E memory) (length (listed R E memory)) (omega arith)));
    }

pub demand_2_operations : Demand2Holds
demand_2_operations = listed_derived
