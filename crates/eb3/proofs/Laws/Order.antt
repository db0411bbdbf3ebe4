-- Demand 1: the operations test in the table's order (document 01, "Operations").
use Rattle.std.specs.Prelude.{◌≡◌, false, ◌&&◌, List, ℕ, length}
use Rattle.std.proofs.Math.Path.{ap}
use Rattle.std.proofs.Common.{◌∙◌}
use Rattle.std.proofs.Math.Option.{Option}
use Rattle.std.proofs.Math.ListN.{get_elem?}
use Rattle.eb3.specs.Refusal
use Rattle.eb3.specs.Terms.{Term, Action}
use Rattle.eb3.specs.Moves.{Move}
use Rattle.eb3.specs.Sizes.{reach}
use Rattle.eb3.specs.RuleSets.{RuleSet}
use Rattle.eb3.specs.Reading.{pick}
use Rattle.eb3.specs.Answers.{Answer, refused, answered, and_then, Ran, Written, unwritten, Tabled, untabled}
use Rattle.eb3.specs.Readers.{lets_through}
use Rattle.eb3.specs.Admission.{admission}
use Rattle.eb3.specs.Operations.{sizes_needed, term_fits, memory_fits, term_in, event_in, listed, writing, at_first, started, counted_at, stepped_from, choice_by_event, moved, chosen, admit, start, count, move, present, run, ran_with, tabling}
use Rattle.eb3.specs.Answers.{or_refused}
use Rattle.eb3.specs.Demands.{Demand1Order, OrderHolds}

module _ (rules list table term memory event next_term next_memory spare_term spare_memory : List ℕ) (k : ℕ) where
  -- What each operation does with the rule set, with the term, and with the event.
  by_rules : {X : Type 0} (a b : List ℕ) (f : RuleSet → Written X) (r : Answer RuleSet) → admission rules ≡ r → writing a b (admission rules) f ≡ writing a b r f
  by_rules a b f r e = ap (λ x. writing a b x f) e

  by_rules_tabled : (f : RuleSet → Tabled Ran) (r : Answer RuleSet) → admission rules ≡ r → tabling table term memory (admission rules) f ≡ tabling table term memory r f
  by_rules_tabled f r e = ap (λ x. tabling table term memory x f) e

  by_term : {X : Type 0} (R : RuleSet) (f : Term → Written X) (r : Answer Term) → term_in R term ≡ r → writing next_term next_memory (term_in R term) f ≡ writing next_term next_memory r f
  by_term R f r e = ap (λ x. writing next_term next_memory x f) e

  by_event : (R : RuleSet) (E : Term) (r : Answer Action) → event_in R event ≡ r
      → stepped_from R E memory next_term next_memory (choice_by_event R event) ≡ stepped_from R E memory next_term next_memory (and_then r λ ρ. answered (at_first ρ))
  by_event R E r e = ap (λ x. stepped_from R E memory next_term next_memory (and_then x λ ρ. answered (at_first ρ))) e

  without_room : (R : RuleSet) (E : Term) (choose : List Move → Option Move) → (term_fits (reach R.edition.width E) next_term && (memory_fits R memory && memory_fits R next_memory)) ≡ false
      → chosen R E memory next_term next_memory choose ≡ unwritten next_term next_memory Refusal.space
  without_room R E choose e = ap (λ b. pick b (writing next_term next_memory (or_refused Refusal.not_offered (choose (listed R E memory))) (moved R memory next_term next_memory)) (unwritten next_term next_memory Refusal.space)) e

  -- What Run does where it has room: refusal 13, or the run.
  abbrev read_by : RuleSet → Tabled Ran
  read_by R = pick (lets_through list table) (ran_with list table term memory R) (untabled table term memory Refusal.reader)

  ordered : Demand1Order rules list table term memory event next_term next_memory spare_term spare_memory k
  unfolding admit start count move present run and_then
  ordered = record {
    admission_first = λ j e. (
      ap (λ x. and_then x λ R. answered (sizes_needed R)) e,
      by_rules term memory _ (refused j) e,
      ap (λ x. and_then x λ R. and_then (term_in R term) λ E. counted_at R E memory) e,
      by_rules next_term next_memory _ (refused j) e,
      by_rules next_term next_memory _ (refused j) e,
      by_rules_tabled _ (refused j) e,
    );
    term_next = λ R a j e. (
      ap (λ x. and_then x λ R. and_then (term_in R term) λ E. counted_at R E memory) a
          ∙ ap (λ x. and_then x λ E. counted_at R E memory) e,
      by_rules next_term next_memory _ (answered R) a ∙ by_term R _ (refused j) e,
      by_rules next_term next_memory _ (answered R) a ∙ by_term R _ (refused j) e,
    );
    event_next = λ R E a t j e. by_rules next_term next_memory _ (answered R) a ∙ by_term R _ (answered E) t ∙ by_event R E (refused j) e;
    space_before_offer = λ R E a t e. (
      by_rules next_term next_memory _ (answered R) a ∙ by_term R _ (answered E) t ∙ without_room R E (λ xs. get_elem? xs k) e,
      λ ρ v. by_rules next_term next_memory _ (answered R) a ∙ by_term R _ (answered E) t ∙ by_event R E (answered ρ) v ∙ without_room R E (at_first ρ) e,
    );
    start_short = λ R a e. by_rules term memory _ (answered R) a ∙ ap (λ b. pick b (started term memory R) (unwritten term memory Refusal.space)) e;
    count_short = λ R E a t e.
        ap (λ x. and_then x λ R. and_then (term_in R term) λ E. counted_at R E memory) a
        ∙ (ap (λ x. and_then x λ E. counted_at R E memory) t
        ∙ ap (λ b. pick b (answered (length (listed R E memory))) (refused Refusal.space)) e);
    run_short = λ R a e. by_rules_tabled _ (answered R) a ∙ ap (λ b. pick b (read_by R) (untabled table term memory Refusal.space)) e;
    run_reader = λ R a e f. by_rules_tabled _ (answered R) a
        ∙ (ap (λ b. pick b (read_by R) (untabled table term memory Refusal.space)) e ∙ ap (λ b. pick b (ran_with list table term memory R) (untabled table term memory Refusal.reader)) f);
  }

pub order : OrderHolds
order = ordered
