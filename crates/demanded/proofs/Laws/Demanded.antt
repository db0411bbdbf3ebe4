-- The demands fix the operations (document 01, "Operations"; document 02, K1): ours meet them (`ours`), and any six that meet them are ours (`theirs`);
-- `the_engine` is both.
use Rattle.std.specs.Prelude.{◌≡◌, Bool, ◌&&◌, ◌⊎◌, ℕ, ◌+◌, ◌-◌, ◌≤◌, ◌<◌, leb}
use Rattle.std.proofs.Math.Path.{refl, ap, sym}
use Rattle.std.proofs.Common.{◌∙◌, subst, inl, inr, arith, leb→le}
use mathlib.Core.List.{List, [], ◌++◌}
use Rattle.std.proofs.Math.Option.{Option, none, some}
use Rattle.std.proofs.Math.ListN.{length, replicate}
use Rattle.eb3.specs.Values.{decode, bounded}
use Rattle.eb3.specs.Terms.{Term, Action}
use Rattle.eb3.specs.Moves.{moves, first_with}
use Rattle.eb3.specs.Derivations.{Earlier}
use Rattle.eb3.specs.Cells.{all_values}
use Rattle.eb3.proofs.Laws.Cells.{initial_values}
use Rattle.eb3.specs.Semantics.{Sem_T, Sem_M, situation, system}
use Rattle.eb3.proofs.Laws.Semantics.{demand_2_memory}
use Rattle.eb3.specs.Machines.{Machine, history_run, history_outcomes}
use Rattle.eb3.proofs.Laws.Machines.{chain_run}
use Rattle.demanded.proofs.Laws.HistoryRuns.{at, history_run_chain, history_run_there, history_run_outcomes}
use Rattle.eb3.specs.TransitionSystems.{Outcome, visible?, internal?, refused?, tally}
use Rattle.demanded.proofs.Laws.Readers.{paired_numbers, paired_readers, lets, through, let_through?, table_left}
use Rattle.eb3.specs.Attributes.{Trace}
use Rattle.eb3.specs.Sizes.{size}
use Rattle.eb3.specs.RuleSets.{RuleSet, attributes}
use Rattle.eb3.specs.Unfolding.{unfold_main}
use Rattle.eb3.specs.Spelling.{words}
use Rattle.eb3.specs.Reading.{pick}
use Rattle.eb3.proofs.Laws.Reading.{pick_true}
use Rattle.eb3.specs.Bytes.{word_count, written}
use Rattle.eb3.specs.Memory.{memory_words, cells_in}
use Rattle.eb3.specs.Answers.{Answer, refused, answered, and_then, Sizes, Moved, Ran, Written, unwritten, Tabled, untabled}
use Rattle.eb3.specs.Readers.{numbers_in, readers_in, lets_through, counts_by_reader, increased}
use Rattle.eb3.specs.Admission.{admission}
use Rattle.eb3.specs.Operations.{sizes_needed, main_reach, memory_fits, writing, started, ran, reader_counts, ran_with, admit, start, run, count, move, present, ScratchAfter}
use Rattle.eb3.specs.Demands.{Demand2}
use Rattle.eb3.proofs.Laws.Order.{order}
use Rattle.eb3.proofs.Laws.DemandTwo.{demand_2_operations}
use Rattle.eb3.specs.Generic.PositionsUnique.{same_number, list_unique}
use Rattle.demanded.proofs.Laws.Verdicts.{at_most_or, Verdict, verdict, admits_answer, refuses_answer}
use Rattle.demanded.proofs.Laws.Numberings.{numbered_there, FirstDerived, first_derived, none_first, some_first}
use Rattle.demanded.proofs.Laws.Given.{written_is, cells_written, not_true, room?, start_in_room, start_room, move_in_room, move_room?, run_in_room, run_room?, term?, event?, term_given, event_given, no_term_given, no_event_given}
use Rattle.eb3.proofs.Laws.DemandThree.{run_judged}
use Rattle.demanded.specs.Admitting.{G, Admits}
use Rattle.demanded.specs.Ours.{our_operations, Ours}
use Rattle.demanded.specs.Demanded.{overwritten, only_refused, C, cells_of, values_over, GivenTerm, GivenEvent, Room, MoveRoom, RunRoom, LetThrough, Derived, Outcomes, Numbering, derived_outcome, HistoryRun, counts, counted_up, run_outcome, ScratchDemands, AdmitDemands, StartDemands, CountDemands, MoveDemands, PresentDemands, RunDemands, Operations, Demanded, Same}

-- ── ours meet the demands ──

admit_meets : AdmitDemands admit
unfolding admit and_then
admit_meets = record {
  refuses = λ rules k r. ap (λ x. and_then x λ R. answered (sizes_needed R)) (refuses_answer rules k r);
  answers = λ rules R a. ap (λ x. and_then x λ R. answered (sizes_needed R)) (admits_answer rules R a);
}

start_meets : (rules term memory : List ℕ) → StartDemands start rules term memory
unfolding start
start_meets rules term memory = record {
  refuses = λ k r. ((order rules [] [] term memory [] [] [] [] [] 0).admission_first k (refuses_answer rules k r)).1;
  space = λ R a n. (order rules [] [] term memory [] [] [] [] [] 0).start_short R (admits_answer rules R a) (not_true _ (λ t. n (start_in_room R term memory t)));
  answers = λ R a r s.
      ap (λ x. writing term memory x λ R. pick (fits R) (started term memory R) (unwritten term memory 9)) (admits_answer rules R a)
      ∙ (pick_true (started term memory R) (unwritten term memory 9) (fits R) (start_room R term memory r s)
      ∙ (λ i. record {
        answer = answered (size R.edition.width (unfold_main R));
        term = written_is (words R.edition.width (unfold_main R)) term i;
        memory = (ap (λ M. written (memory_words M) memory) (initial_values (attributes R)) ∙ cells_written (all_values (attributes R) []) memory) i;
      }));
}
  where
    fits : RuleSet → Bool
    fits R = leb (G R) (word_count term) && memory_fits R memory

-- Where the history machine comes to is where eb3's does, and each number does the same.
machine_is : (R : RuleSet) (ns : List ℕ) (F : Term) (U : Trace) (os : List Outcome) → HistoryRun R (unfold_main R) [] ns F U os
    → at R F U (tally visible? os) (tally internal? os) (tally refused? os) ≡ history_run (attributes R) (unfold_main R) ns
unfolding history_run
machine_is R ns F U os f =
    let p : 0 + tally visible? os ≡ tally visible? os = omega arith in
    let q : 0 + tally internal? os ≡ tally internal? os = omega arith in
    let s : 0 + tally refused? os ≡ tally refused? os = omega arith in
    (λ j. at R F U (sym p j) (sym q j) (sym s j)) ∙ chain_run (Sem_T (attributes R)) (history_run_chain R f 0 0 0)

outcomes_are : (R : RuleSet) (ns : List ℕ) (F : Term) (U : Trace) (os : List Outcome) → HistoryRun R (unfold_main R) [] ns F U os → os ≡ history_outcomes (attributes R) (unfold_main R) ns
unfolding history_outcomes
outcomes_are R ns F U os f = history_run_outcomes R f

-- What Run leaves where the machine ends with h, as Demanded says it.
abbrev left : (R : RuleSet) → Machine (Sem_T (attributes R)) → List ℕ → List ℕ → Written Ran
left R h term memory = record {
  answer = answered (record { size = size R.edition.width h.state.term; visible = h.visible_count; internal = h.internal_count; refusals = h.refused_count });
  term = overwritten (words R.edition.width h.state.term ++ replicate (G R - size R.edition.width h.state.term) 0) term;
  memory = overwritten (values_over R h.state.state) memory;
}

run_left : (R : RuleSet) (ns term memory : List ℕ) → ran ns term memory R ≡ left R (history_run (attributes R) (unfold_main R) ns) term memory
run_left R ns term memory =
    let h = history_run (attributes R) (unfold_main R) ns in
    λ i. record {
      answer = answered (record { size = size R.edition.width h.state.term; visible = h.visible_count; internal = h.internal_count; refusals = h.refused_count });
      term = written_is (words R.edition.width h.state.term ++ replicate (main_reach R - size R.edition.width h.state.term) 0) term i;
      memory = cells_written (all_values (attributes R) h.state.state) memory i;
    }

module _ (R : RuleSet) (list table term memory ns rs : List ℕ) (x : LetThrough list table ns rs) (F : Term) (U : Trace) (os : List Outcome) (f : HistoryRun R (unfold_main R) [] ns F U os) where
  written_left : ran (numbers_in list) term memory R ≡ left R (at R F U (tally visible? os) (tally internal? os) (tally refused? os)) term memory
  written_left = ap (λ ks. ran ks term memory R) (sym (paired_numbers x.paired))
      ∙ (run_left R ns term memory ∙ ap (λ (h : Machine (Sem_T (attributes R))). left R h term memory) (sym (machine_is R ns F U os f)))

  table_counted : increased (reader_counts list R) table ≡ counted_up (counts rs os) table
  table_counted =
      (λ i. increased (counts_by_reader (sym (paired_readers x.paired) i) (history_outcomes (attributes R) (unfold_main R) (sym (paired_numbers x.paired) i))) table)
      ∙ (ap (λ os. increased (counts_by_reader rs os) table) (sym (outcomes_are R ns F U os f)) ∙ sym (table_left rs os table x.records))

  all_left : ran_with list table term memory R ≡ run_outcome R F U os rs table term memory
  all_left = λ i. record { written = written_left i; table = table_counted i }

run_meets : (rules list table term memory spare_term spare_memory : List ℕ) → RunDemands run rules list table term memory spare_term spare_memory
run_meets rules list table term memory spare_term spare_memory = record {
  refuses = λ k r. ((order rules list table term memory [] [] [] spare_term spare_memory 0).admission_first k (refuses_answer rules k r)).5;
  space = λ R a n. (order rules list table term memory [] [] [] spare_term spare_memory 0).run_short R (admits_answer rules R a) (not_true _ (λ t. n (run_in_room R term memory spare_term spare_memory t)));
  reader = λ R a r n. judged R a r
      ∙ ap (λ b. pick b (ran_with list table term memory R) (untabled table term memory 13)) (not_true (lets_through list table) (λ t. n (numbers_in list) (readers_in list) (lets list table t)));
  answers = λ R a r ns rs x F U os f. judged R a r
      ∙ (pick_true (ran_with list table term memory R) (untabled table term memory 13) (lets_through list table) (through list table x) ∙ all_left R list table term memory ns rs x F U os f);
}
  where
    judged : (R : RuleSet) → Admits rules R → RunRoom R term memory spare_term spare_memory
        → run rules list table term memory spare_term spare_memory ≡ pick (lets_through list table) (ran_with list table term memory R) (untabled table term memory 13)
    judged R a r = run_judged rules (sizes_needed R) R (admits_answer rules R a) refl list table term memory spare_term spare_memory
        (record { term_room = r.term_room; memory_room = r.memory_room }) (record { term_room = r.spare_term_room; memory_room = r.spare_memory_room })

pub scratch_meets : ScratchDemands ScratchAfter
scratch_meets = record { refused_kept = λ k s s'. ((λ e. e), (λ e. e)); odd_byte_kept = λ x s s'. ((λ e. e), (λ e. e)) }

module _ (rules term memory : List ℕ) (R : RuleSet) (E : Term) (a : Admits rules R) (given : GivenTerm R term E) where
  abbrev admitted : admission rules ≡ answered R
  admitted = admits_answer rules R a

  unfoldable pub moves_of : Room (C R) memory → Demand2 rules term memory R E
  moves_of room = demand_2_operations rules term memory R E admitted (term_given R a.holds.form term E given) room

  -- Its numbering, at the cells as Demanded reads them.
  pub numbering : Room (C R) memory → Numbering R E memory ((system (Sem_M (attributes R))).transitions (situation E (cells_of R memory)))
  unfolding cells_in decode bounded
  numbering room = (moves_of room).derivations

  module _ (room : Room (C R) memory) (l : Outcomes R) (n : Numbering R E memory l) where
    pub listed_length : length l ≡ (moves_of room).moves_listed
    unfolding cells_in decode bounded
    listed_length = ap length (list_unique l _ n (numbering room)) ∙ (moves_of room).all_listed

    count_answers : count rules term memory ≡ answered (length l)
    count_answers = (moves_of room).counted ∙ ap answered (sym listed_length)

  module _ (next_term next_memory : List ℕ) (r : MoveRoom R E memory next_term next_memory) where
    move_derived : (d : Derived R E memory) (k : ℕ) → ((numbering r.given_room).numbers.fun d).0 ≡ k
        → move rules term memory k next_term next_memory ≡ derived_outcome R E memory next_term next_memory d
    unfolding cells_in decode bounded numbering
    move_derived d k e =
        ap (λ k. move rules term memory k next_term next_memory) (sym e)
        ∙ ((moves_of r.given_room).moved d next_term next_memory r.term_room r.memory_room
        ∙ (λ i. record {
          answer = answered (record { action = d.action; size = size R.edition.width d.successor });
          term = written_is (words R.edition.width d.successor) next_term i;
          memory = cells_written d.state next_memory i;
        }))

    move_none : (k : ℕ) → (moves_of r.given_room).moves_listed ≤ k → move rules term memory k next_term next_memory ≡ only_refused 12 next_term next_memory
    move_none k h = (moves_of r.given_room).no_other k h next_term next_memory r.term_room r.memory_room

    module _ (event : List ℕ) (ρ : Action) (presented : GivenEvent R event ρ) where
      present_derived : (d : Derived R E memory) → d.action ≡ ρ → ((e : Derived R E memory) → Earlier e d → e.action ≡ ρ → ⊥)
          → present rules term memory event next_term next_memory ≡ derived_outcome R E memory next_term next_memory d
      unfolding cells_in decode bounded
      present_derived d e h =
          let n = numbering r.given_room in
          (moves_of r.given_room).presented ρ event (event_given R a.holds.form event ρ presented) (n.numbers.fun d).0
          (some_first (Sem_M (attributes R)) (cells_of R memory) E n ρ d e h) next_term next_memory
          ∙ move_derived d (n.numbers.fun d).0 refl

      present_none : ((d : Derived R E memory) → d.action ≡ ρ → ⊥) → present rules term memory event next_term next_memory ≡ only_refused 12 next_term next_memory
      unfolding cells_in decode bounded
      present_none h =
          (moves_of r.given_room).not_presented ρ event (event_given R a.holds.form event ρ presented)
          (none_first (Sem_M (attributes R)) (cells_of R memory) E (numbering r.given_room) ρ h) next_term next_memory
          ∙ move_none (moves_of r.given_room).moves_listed (omega arith)

count_meets : (rules term memory : List ℕ) → CountDemands count rules term memory
count_meets rules term memory = record {
  refuses = λ k r. ((order rules [] [] term memory [] [] [] [] [] 0).admission_first k (refuses_answer rules k r)).2;
  no_term = λ R a n. ((order rules [] [] term memory [] [] [] [] [] 0).term_next R (admits_answer rules R a) 10 (no_term_given R a.holds.form term n)).0;
  space = λ R E a g n. (order rules [] [] term memory [] [] [] [] [] 0).count_short R E (admits_answer rules R a) (term_given R a.holds.form term E g) (not_true _ (λ t. n (leb→le (C R) (word_count memory) t)));
  answers = λ R E a g r l n. count_answers rules term memory R E a g r l n;
}

move_meets : (rules term memory : List ℕ) (k : ℕ) (next_term next_memory : List ℕ) → MoveDemands move rules term memory k next_term next_memory
move_meets rules term memory k next_term next_memory = record {
  refuses = λ j r. ((order rules [] [] term memory [] next_term next_memory [] [] k).admission_first j (refuses_answer rules j r)).3;
  no_term = λ R a n. ((order rules [] [] term memory [] next_term next_memory [] [] k).term_next R (admits_answer rules R a) 10 (no_term_given R a.holds.form term n)).1;
  space = λ R E a g n. ((order rules [] [] term memory [] next_term next_memory [] [] k).space_before_offer R E (admits_answer rules R a) (term_given R a.holds.form term E g)
      (not_true _ (λ t. n (move_in_room R E memory next_term next_memory t)))).0;
  not_offered = λ R E a g r l n h. move_none rules term memory R E a g next_term next_memory r k
      (subst (λ m. m ≤ k) (listed_length rules term memory R E a g r.given_room l n) h);
  answers = λ R E a g r l n d e. move_derived rules term memory R E a g next_term next_memory r d k (same_number (numbering rules term memory R E a g r.given_room) n d ∙ e);
}

present_meets : (rules term memory event next_term next_memory : List ℕ) → PresentDemands present rules term memory event next_term next_memory
present_meets rules term memory event next_term next_memory = record {
  refuses = λ j r. ((order rules [] [] term memory event next_term next_memory [] [] 0).admission_first j (refuses_answer rules j r)).4;
  no_term = λ R a n. ((order rules [] [] term memory event next_term next_memory [] [] 0).term_next R (admits_answer rules R a) 10 (no_term_given R a.holds.form term n)).2;
  no_event = λ R E a g n. (order rules [] [] term memory event next_term next_memory [] [] 0).event_next R E (admits_answer rules R a) (term_given R a.holds.form term E g) 11 (no_event_given R a.holds.form event n);
  space = λ R E ρ a g v n. ((order rules [] [] term memory event next_term next_memory [] [] 0).space_before_offer R E (admits_answer rules R a) (term_given R a.holds.form term E g)
      (not_true _ (λ t. n (move_in_room R E memory next_term next_memory t)))).1 ρ (event_given R a.holds.form event ρ v);
  not_offered = λ R E ρ a g v r. present_none rules term memory R E a g next_term next_memory r event ρ v;
  answers = λ R E ρ a g v r. present_derived rules term memory R E a g next_term next_memory r event ρ v;
}

pub ours : Demanded our_operations
ours = record { admits = admit_meets; starts = start_meets; counts = count_meets; moves = move_meets; presents = present_meets; runs = run_meets }

-- ── and no others do ──

-- The derivations are numbered, so each demand has its case.
the_numbering : (R : RuleSet) (E : Term) (memory : List ℕ) → Numbering R E memory ((system (Sem_M (attributes R))).transitions (situation E (cells_of R memory)))
the_numbering R E memory = demand_2_memory (attributes R) (cells_of R memory) E

module _ (rules : List ℕ) where
  same_admit : (f g : List ℕ → Answer Sizes) → AdmitDemands f → AdmitDemands g → (r : Answer RuleSet) → Verdict rules r → f rules ≡ g rules
  same_admit f g F H (refused k) v = F.refuses rules k v ∙ sym (H.refuses rules k v)
  same_admit f g F H (answered R) v = F.answers rules R v ∙ sym (H.answers rules R v)

  same_start : (f g : List ℕ → List ℕ → List ℕ → Written ℕ) (term memory : List ℕ) → StartDemands f rules term memory → StartDemands g rules term memory
      → (r : Answer RuleSet) → Verdict rules r → f rules term memory ≡ g rules term memory
  same_start f g term memory F H (refused k) v = F.refuses k v ∙ sym (H.refuses k v)
  same_start f g term memory F H (answered R) v = go (room? (G R) term) (room? (C R) memory)
    where
      go : Room (G R) term ⊎ (Room (G R) term → ⊥) → Room (C R) memory ⊎ (Room (C R) memory → ⊥) → f rules term memory ≡ g rules term memory
      go (inl r) (inl s) = F.answers R v r s ∙ sym (H.answers R v r s)
      go (inl r) (inr n) = F.space R v (λ x. n x.1) ∙ sym (H.space R v (λ x. n x.1))
      go (inr n) s = F.space R v (λ x. n x.0) ∙ sym (H.space R v (λ x. n x.0))

  same_count : (f g : List ℕ → List ℕ → List ℕ → Answer ℕ) (term memory : List ℕ) → CountDemands f rules term memory → CountDemands g rules term memory
      → (r : Answer RuleSet) → Verdict rules r → f rules term memory ≡ g rules term memory
  same_count f g term memory F H (refused k) v = F.refuses k v ∙ sym (H.refuses k v)
  same_count f g term memory F H (answered R) v = go (term? R v.holds.form term) (room? (C R) memory)
    where
      go : ((E : Term) × GivenTerm R term E) ⊎ ((E : Term) → GivenTerm R term E → ⊥) → Room (C R) memory ⊎ (Room (C R) memory → ⊥) → f rules term memory ≡ g rules term memory
      go (inr n) s = F.no_term R v n ∙ sym (H.no_term R v n)
      go (inl t) (inr n) = F.space R t.0 v t.1 n ∙ sym (H.space R t.0 v t.1 n)
      go (inl t) (inl r) = F.answers R t.0 v t.1 r _ (the_numbering R t.0 memory) ∙ sym (H.answers R t.0 v t.1 r _ (the_numbering R t.0 memory))

  same_move : (f g : List ℕ → List ℕ → List ℕ → ℕ → List ℕ → List ℕ → Written Moved) (term memory : List ℕ) (k : ℕ) (next_term next_memory : List ℕ)
      → MoveDemands f rules term memory k next_term next_memory → MoveDemands g rules term memory k next_term next_memory
      → (r : Answer RuleSet) → Verdict rules r → f rules term memory k next_term next_memory ≡ g rules term memory k next_term next_memory
  same_move f g term memory k next_term next_memory F H (refused j) v = F.refuses j v ∙ sym (H.refuses j v)
  same_move f g term memory k next_term next_memory F H (answered R) v = go (term? R v.holds.form term)
    where
      there : (E : Term) → GivenTerm R term E → (room : MoveRoom R E memory next_term next_memory)
          → (length ((system (Sem_M (attributes R))).transitions (situation E (cells_of R memory))) ≤ k) ⊎ (k < length ((system (Sem_M (attributes R))).transitions (situation E (cells_of R memory))))
          → f rules term memory k next_term next_memory ≡ g rules term memory k next_term next_memory
      there E t r (inl h) = F.not_offered R E v t r _ (the_numbering R E memory) h ∙ sym (H.not_offered R E v t r _ (the_numbering R E memory) h)
      there E t r (inr h) =
          let d = numbered_there _ (the_numbering R E memory) k h in
          F.answers R E v t r _ (the_numbering R E memory) d.0 d.1 ∙ sym (H.answers R E v t r _ (the_numbering R E memory) d.0 d.1)

      with_room : (E : Term) → GivenTerm R term E → MoveRoom R E memory next_term next_memory ⊎ (MoveRoom R E memory next_term next_memory → ⊥)
          → f rules term memory k next_term next_memory ≡ g rules term memory k next_term next_memory
      with_room E t (inr n) = F.space R E v t n ∙ sym (H.space R E v t n)
      with_room E t (inl r) = there E t r (at_most_or (length ((system (Sem_M (attributes R))).transitions (situation E (cells_of R memory)))) k)

      go : ((E : Term) × GivenTerm R term E) ⊎ ((E : Term) → GivenTerm R term E → ⊥) → f rules term memory k next_term next_memory ≡ g rules term memory k next_term next_memory
      go (inr n) = F.no_term R v n ∙ sym (H.no_term R v n)
      go (inl t) = with_room t.0 t.1 (move_room? R t.0 memory next_term next_memory)

  same_present : (f g : List ℕ → List ℕ → List ℕ → List ℕ → List ℕ → List ℕ → Written Moved) (term memory event next_term next_memory : List ℕ)
      → PresentDemands f rules term memory event next_term next_memory → PresentDemands g rules term memory event next_term next_memory
      → (r : Answer RuleSet) → Verdict rules r → f rules term memory event next_term next_memory ≡ g rules term memory event next_term next_memory
  same_present f g term memory event next_term next_memory F H (refused j) v = F.refuses j v ∙ sym (H.refuses j v)
  same_present f g term memory event next_term next_memory F H (answered R) v = go (term? R v.holds.form term)
    where
      there : (E : Term) (ρ : Action) → GivenTerm R term E → GivenEvent R event ρ → MoveRoom R E memory next_term next_memory
          → (o : Option ℕ) → FirstDerived (Sem_M (attributes R)) (cells_of R memory) E (the_numbering R E memory) ρ o
          → f rules term memory event next_term next_memory ≡ g rules term memory event next_term next_memory
      there E ρ t e r none h = F.not_offered R E ρ v t e r h ∙ sym (H.not_offered R E ρ v t e r h)
      there E ρ t e r (some k) h = F.answers R E ρ v t e r h.0 h.2 h.3 ∙ sym (H.answers R E ρ v t e r h.0 h.2 h.3)

      with_room : (E : Term) (ρ : Action) → GivenTerm R term E → GivenEvent R event ρ → MoveRoom R E memory next_term next_memory ⊎ (MoveRoom R E memory next_term next_memory → ⊥)
          → f rules term memory event next_term next_memory ≡ g rules term memory event next_term next_memory
      with_room E ρ t e (inr n) = F.space R E ρ v t e n ∙ sym (H.space R E ρ v t e n)
      with_room E ρ t e (inl r) = there E ρ t e r (first_with ρ (moves ((Sem_M (attributes R)).satisfies (cells_of R memory)) E)) (first_derived (Sem_M (attributes R)) (cells_of R memory) E (the_numbering R E memory) ρ)

      with_event : (E : Term) → GivenTerm R term E → ((ρ : Action) × GivenEvent R event ρ) ⊎ ((ρ : Action) → GivenEvent R event ρ → ⊥)
          → f rules term memory event next_term next_memory ≡ g rules term memory event next_term next_memory
      with_event E t (inr n) = F.no_event R E v t n ∙ sym (H.no_event R E v t n)
      with_event E t (inl e) = with_room E e.0 t e.1 (move_room? R E memory next_term next_memory)

      go : ((E : Term) × GivenTerm R term E) ⊎ ((E : Term) → GivenTerm R term E → ⊥) → f rules term memory event next_term next_memory ≡ g rules term memory event next_term next_memory
      go (inr n) = F.no_term R v n ∙ sym (H.no_term R v n)
      go (inl t) = with_event t.0 t.1 (event? R v.holds.form event)

  same_run : (f g : List ℕ → List ℕ → List ℕ → List ℕ → List ℕ → List ℕ → List ℕ → Tabled Ran) (list table term memory spare_term spare_memory : List ℕ)
      → RunDemands f rules list table term memory spare_term spare_memory → RunDemands g rules list table term memory spare_term spare_memory
      → (r : Answer RuleSet) → Verdict rules r → f rules list table term memory spare_term spare_memory ≡ g rules list table term memory spare_term spare_memory
  same_run f g list table term memory spare_term spare_memory F H (refused k) v = F.refuses k v ∙ sym (H.refuses k v)
  same_run f g list table term memory spare_term spare_memory F H (answered R) v = go (run_room? R term memory spare_term spare_memory) (let_through? list table)
    where
      go : RunRoom R term memory spare_term spare_memory ⊎ (RunRoom R term memory spare_term spare_memory → ⊥)
          → LetThrough list table (numbers_in list) (readers_in list) ⊎ ((ns rs : List ℕ) → LetThrough list table ns rs → ⊥)
          → f rules list table term memory spare_term spare_memory ≡ g rules list table term memory spare_term spare_memory
      go (inr n) x = F.space R v n ∙ sym (H.space R v n)
      go (inl r) (inr n) = F.reader R v r n ∙ sym (H.reader R v r n)
      go (inl r) (inl x) =
          let e = history_run_there R (numbers_in list) (unfold_main R) [] in
          F.answers R v r _ _ x _ _ _ e.path ∙ sym (H.answers R v r _ _ x _ _ _ e.path)

pub theirs : (o : Operations) → Demanded o → Same o our_operations
theirs o d = record {
  admit = λ rules. same_admit rules o.admit admit d.admits admit_meets (admission rules) (verdict rules);
  start = λ rules term memory. same_start rules o.start start term memory (d.starts rules term memory) (start_meets rules term memory) (admission rules) (verdict rules);
  count = λ rules term memory. same_count rules o.count count term memory (d.counts rules term memory) (count_meets rules term memory) (admission rules) (verdict rules);
  move = λ rules term memory k next_term next_memory. same_move rules o.move move term memory k next_term next_memory
      (d.moves rules term memory k next_term next_memory) (move_meets rules term memory k next_term next_memory) (admission rules) (verdict rules);
  present = λ rules term memory event next_term next_memory. same_present rules o.present present term memory event next_term next_memory
      (d.presents rules term memory event next_term next_memory) (present_meets rules term memory event next_term next_memory) (admission rules) (verdict rules);
  run = λ rules list table term memory spare_term spare_memory. same_run rules o.run run list table term memory spare_term spare_memory
      (d.runs rules list table term memory spare_term spare_memory) (run_meets rules list table term memory spare_term spare_memory) (admission rules) (verdict rules);
}

-- As one equation.
pub theirs_equal : (o : Operations) → Demanded o → o ≡ our_operations
theirs_equal o d =
    let s = theirs o d in
    λ i. record {
      admit = λ rules. s.admit rules i;
      start = λ rules term memory. s.start rules term memory i;
      count = λ rules term memory. s.count rules term memory i;
      move = λ rules term memory k next_term next_memory. s.move rules term memory k next_term next_memory i;
      present = λ rules term memory event next_term next_memory. s.present rules term memory event next_term next_memory i;
      run = λ rules list table term memory spare_term spare_memory. s.run rules list table term memory spare_term spare_memory i;
    }

pub the_engine : Ours
the_engine = record { meet = ours; alone = theirs_equal; scratch = scratch_meets }
