-- Demand 3 is met: one theorem over admit, run, count and move on bytes (`demand_3`).
use Rattle.std.specs.Prelude.{◌≡◌, ◌&&◌, List, ℕ, ◌≤◌, T, length, refl, []}
use Rattle.std.proofs.Math.Path.{ap, sym, subst}
use Rattle.std.proofs.Common.{◌∙◌, arith, le→leb}
use Rattle.std.proofs.Math.Option.{Option, none, some}
use Rattle.std.proofs.Math.ListN.{get_elem?}
use Rattle.eb3.specs.Generic.Booleans.{T_and}
use Rattle.eb3.specs.Generic.PositionsLaws.{beyond_none}
use Rattle.eb3.specs.Refusal
use Rattle.eb3.specs.Terms.{Term}
use Rattle.eb3.specs.Moves.{Move, moves}
use Rattle.eb3.specs.Derivations.{state_after}
use Rattle.eb3.specs.Attributes.{Trace}
use Rattle.eb3.specs.Cells.{all_values}
use Rattle.eb3.proofs.Laws.Cells.{length_values}
use Rattle.eb3.specs.Semantics.{Sem_T, Sem_M, situation, system}
use Rattle.eb3.proofs.Laws.Semantics.{demand_2_trace}
use Rattle.eb3.specs.Machines.{Machine, history_start, history_run, history_outcomes}
use Rattle.eb3.proofs.Laws.Machines.{guards_alike, new_cells, history_chain, machines_agree}
use Rattle.eb3.specs.TransitionSystems.{Outcome, visible?, internal?, refused?, tally}
use Rattle.eb3.proofs.Laws.TransitionSystems.{Tallied, run_tallied}
use Rattle.eb3.specs.Sizes.{size, reach, breadth}
use Rattle.eb3.proofs.Laws.Sizes.{run_reach, run_breadth}
use Rattle.eb3.specs.RuleSets.{RuleSet, attributes}
use Rattle.eb3.specs.Unfolding.{unfold_main}
use Rattle.eb3.specs.WellFormedness.{Running, WellFormed}
use Rattle.eb3.proofs.Laws.MainRunning.{main_running}
use Rattle.eb3.proofs.Laws.Running.{run_running, history_well_formed}
use Rattle.eb3.specs.Spelling.{words}
use Rattle.eb3.specs.Reading.{pick}
use Rattle.eb3.proofs.Laws.Reading.{pick_true}
use Rattle.eb3.specs.Bytes.{words_in, word_count, written}
use Rattle.eb3.proofs.Laws.Bytes.{written_length}
use Rattle.eb3.specs.Memory.{cell_room, memory_words}
use Rattle.eb3.proofs.Laws.Memory.{memory_length}
use Rattle.eb3.specs.Answers.{answered, and_then, Sizes, Ran, Written, or_refused, Tabled, untabled}
use Rattle.eb3.proofs.Laws.Answers.{and_then_answered, answered_injective}
use Rattle.eb3.specs.Admission.{admission}
use Rattle.eb3.proofs.Laws.Admission.{admitted}
use Rattle.eb3.specs.Operations.{cells_needed, main_reach, sizes_needed, term_fits, memory_fits, term_in, cells_given, listed, writing, counted_at, moved, chosen, admit, count, move, run, ran_at, ran_with, reader_counts, tabling, run_fits}
use Rattle.eb3.proofs.Laws.Operations.{cut_back, values_back}
use Rattle.eb3.specs.Demands.{Roomy, last_term, last_trace, history_moves, values_words, run_result, move_result, cut, after, Demand3, Demand3Holds, TableAfter}
use Rattle.eb3.specs.Readers.{numbers_in, readers_in, lets_through, increased}
use Rattle.eb3.proofs.Laws.Readers.{one_outcome_each, table_after, through_readers, through_room}

-- What an admission reports is what its rule set needs.
pub admit_reports : (rules : List ℕ) (S : Sizes) → admit rules ≡ answered S → (R : RuleSet) × (admission rules ≡ answered R) × (sizes_needed R ≡ S)
unfolding admit
admit_reports rules S e = let p = and_then_answered (admission rules) _ S e in (p.0, p.1, answered_injective (sizes_needed p.0) S p.2)

-- Buffers of at least the reported sizes pass the tests of 9.
pub fits : (S : Sizes) (R : RuleSet) → sizes_needed R ≡ S → (term memory : List ℕ) → Roomy S term memory → (n : ℕ) → n ≤ main_reach R → T (term_fits n term) × T (memory_fits R memory)
fits S R s term memory r n l =
    let g : main_reach R ≡ S.reach = ap (λ (x : Sizes). x.reach) s in
    let c : cells_needed R ≡ S.cells = ap (λ (x : Sizes). x.cells) s in
    (le→leb n (word_count term) (omega (arith, r.term_room)), le→leb (cells_needed R) (cell_room memory) (omega (arith, r.memory_room)))

-- So do Run's four.
run_has_room : (S : Sizes) (R : RuleSet) → sizes_needed R ≡ S → (term memory spare_term spare_memory : List ℕ) → Roomy S term memory → Roomy S spare_term spare_memory
    → T (run_fits R term memory spare_term spare_memory)
run_has_room S R s term memory spare_term spare_memory room spare =
    let f = fits S R s term memory room (main_reach R) (omega arith) in
    let f' = fits S R s spare_term spare_memory spare (main_reach R) (omega arith) in
    T_and (term_fits (main_reach R) term && memory_fits R memory) (term_fits (main_reach R) spare_term && memory_fits R spare_memory)
    (T_and (term_fits (main_reach R) term) (memory_fits R memory) f.0 f.1) (T_and (term_fits (main_reach R) spare_term) (memory_fits R spare_memory) f'.0 f'.1)

module _ (rules : List ℕ) (S : Sizes) (R : RuleSet) (a : admission rules ≡ answered R) (s : sizes_needed R ≡ S) where
  good : WellFormed R
  good = (admitted rules R a).good

  -- Count and Move at any reached state: a running term and the values over a trace, as they were written.
  module _ (E : Term) (H : Trace) (term memory : List ℕ) (given : term_in R term ≡ answered E) (cells : cells_given R memory ≡ all_values (attributes R) H)
      (room : S.cells ≤ cell_room memory) (small : reach R.edition.width E ≤ S.reach) where
    unfoldable pub there : List Move
    there = moves ((Sem_T (attributes R)).satisfies H) E

    listed_is : listed R E memory ≡ there
    unfolding there
    listed_is = ap (λ g. moves g E) (ap (λ M. (Sem_M (attributes R)).satisfies M) cells ∙ guards_alike (attributes R) H)

    memory_has_room : T (memory_fits R memory)
    memory_has_room = let c : cells_needed R ≡ S.cells = ap (λ (x : Sizes). x.cells) s in le→leb (cells_needed R) (cell_room memory) (omega arith)

    pub count_there : count rules term memory ≡ answered (length there)
    unfolding count and_then
    count_there =
        ap (λ x. and_then x λ R. and_then (term_in R term) λ E. counted_at R E memory) a
        ∙ (ap (λ x. and_then x λ E. counted_at R E memory) given
        ∙ (pick_true _ _ (memory_fits R memory) memory_has_room ∙ ap (λ l. answered (length l)) listed_is))

    -- Move k, up to the entry of the list.
    pub move_there : (k : ℕ) (o : Option Move) → get_elem? there k ≡ o → (next_term next_memory : List ℕ) → Roomy S next_term next_memory
        → move rules term memory k next_term next_memory ≡ writing next_term next_memory (or_refused Refusal.not_offered o) (moved R memory next_term next_memory)
    unfolding move
    move_there k o e next_term next_memory r =
        let g : main_reach R ≡ S.reach = ap (λ (x : Sizes). x.reach) s in
        let f = fits S R s next_term next_memory r (reach R.edition.width E) (omega arith) in
        ap (λ x. writing next_term next_memory x λ R. writing next_term next_memory (term_in R term) λ E. chosen R E memory next_term next_memory λ xs. get_elem? xs k) a
        ∙ (ap (λ x. writing next_term next_memory x λ E. chosen R E memory next_term next_memory λ xs. get_elem? xs k) given
        ∙ (pick_true _ _ (term_fits (reach R.edition.width E) next_term && (memory_fits R memory && memory_fits R next_memory))
        (T_and (term_fits (reach R.edition.width E) next_term) (memory_fits R memory && memory_fits R next_memory) f.0 (T_and (memory_fits R memory) (memory_fits R next_memory) memory_has_room f.1))
        ∙ ap (λ x. writing next_term next_memory (or_refused Refusal.not_offered x) (moved R memory next_term next_memory)) (ap (λ l. get_elem? l k) listed_is ∙ e)))

    -- The new memory holds the values over the trace that the move leaves.
    pub renewed_there : (x : Move) → state_after (Sem_M (attributes R)) (cells_given R memory) x.action ≡ all_values (attributes R) (state_after (Sem_T (attributes R)) H x.action)
    renewed_there x = ap (λ M. state_after (Sem_M (attributes R)) M x.action) cells ∙ new_cells (attributes R) H x.action

  -- Run, up to the test of 13.
  pub run_judged : (list table term memory spare_term spare_memory : List ℕ) → Roomy S term memory → Roomy S spare_term spare_memory
      → run rules list table term memory spare_term spare_memory ≡ pick (lets_through list table) (ran_with list table term memory R) (untabled table term memory Refusal.reader)
  unfolding run
  run_judged list table term memory spare_term spare_memory room spare =
      ap (λ x. tabling table term memory x λ R. ran_at list table term memory spare_term spare_memory R) a
      ∙ pick_true _ _ (run_fits R term memory spare_term spare_memory) (run_has_room S R s term memory spare_term spare_memory room spare)

  -- The run from the start.
  module _ (list table term memory spare_term spare_memory : List ℕ) (room : Roomy S term memory) (spare : Roomy S spare_term spare_memory) (through : T (lets_through list table)) where
    unfoldable pub h : Machine (Sem_T (attributes R))
    h = history_run (attributes R) (unfold_main R) (numbers_in list)

    running : Running R (last_term R h)
    unfolding h history_run
    running = run_running R (Sem_T (attributes R)) (history_start (attributes R) (unfold_main R)) (numbers_in list) (main_running R good)

    reach_kept : reach R.edition.width (last_term R h) ≤ S.reach
    unfolding h history_run
    reach_kept = let g : main_reach R ≡ S.reach = ap (λ (x : Sizes). x.reach) s in
        omega (arith, run_reach R.edition.width (Sem_T (attributes R)) (history_start (attributes R) (unfold_main R)) (numbers_in list))

    breadth_kept : breadth (last_term R h) ≤ S.breadth
    unfolding h history_run
    breadth_kept = let g : breadth (unfold_main R) ≡ S.breadth = ap (λ (x : Sizes). x.breadth) s in
        omega (arith, run_breadth R.edition.width (Sem_T (attributes R)) (history_start (attributes R) (unfold_main R)) (numbers_in list))

    run_made : after rules list table term memory spare_term spare_memory S ≡ ran_with list table term memory R
    run_made = run_judged list table term memory spare_term spare_memory room spare ∙ pick_true _ _ (lets_through list table) through

    pub run_is : (after rules list table term memory spare_term spare_memory S).written ≡ run_result R h term memory
    unfolding h
    run_is = ap (λ (w : Tabled Ran). w.written) run_made

    pub table_is : (after rules list table term memory spare_term spare_memory S).table ≡ increased (reader_counts list R) table
    table_is = ap (λ (w : Tabled Ran). w.table) run_made

    -- What each number did.
    abbrev did : List Outcome
    did = history_outcomes (attributes R) (unfold_main R) (numbers_in list)

    did_tallied : Tallied (system (Sem_T (attributes R))) (history_start (attributes R) (unfold_main R)) h did
    unfolding h history_run history_outcomes
    did_tallied = run_tallied (system (Sem_T (attributes R))) (history_start (attributes R) (unfold_main R)) (numbers_in list)

    did_counted : (h.visible_count ≡ tally visible? did) × (h.internal_count ≡ tally internal? did) × (h.refused_count ≡ tally refused? did)
    did_counted = (omega (arith, did_tallied.visible_tally), omega (arith, did_tallied.internal_tally), omega (arith, did_tallied.refused_tally))

    did_many : length (readers_in list) ≡ length did
    unfolding history_outcomes
    did_many = one_outcome_each (system (Sem_T (attributes R))) (situation (unfold_main R) []) (words_in list)

    -- What is then given to Count and Move: the last term, cut, and the last memory.
    abbrev result : Written Ran
    result = run_result R h term memory

    term_given : term_in R (cut (size R.edition.width (last_term R h)) result.term) ≡ answered (last_term R h)
    term_given = cut_back R good.form (last_term R h) _ term running

    cells_are : cells_given R result.memory ≡ all_values (attributes R) (last_trace R h)
    unfolding h
    cells_are = values_back R good.form (last_trace R h) memory (history_well_formed R (unfold_main R) (numbers_in list) (main_running R good).form)

    room_left : S.cells ≤ cell_room result.memory
    room_left =
        let c : cells_needed R ≡ S.cells = ap (λ (x : Sizes). x.cells) s in
        let l : length (values_words R (last_trace R h)) ≤ word_count memory = omega (arith, memory_length (all_values (attributes R) (last_trace R h)), length_values (attributes R) (last_trace R h), room.memory_room) in
        omega (arith, written_length (values_words R (last_trace R h)) memory l, room.memory_room)

    moves_are : (k : ℕ) (o : Option Move) → get_elem? (history_moves R h) k ≡ o → (next_term next_memory : List ℕ) → Roomy S next_term next_memory
        → move rules (cut (size R.edition.width (last_term R h)) result.term) result.memory k next_term next_memory
        ≡ writing next_term next_memory (or_refused Refusal.not_offered o) (moved R result.memory next_term next_memory)
    unfolding there
    moves_are k o e = move_there (last_term R h) (last_trace R h) (cut (size R.edition.width (last_term R h)) result.term) result.memory term_given cells_are room_left reach_kept k o e

    move_is : (k : ℕ) (x : Move) → get_elem? (history_moves R h) k ≡ some x → (next_term next_memory : List ℕ) → Roomy S next_term next_memory
        → move rules (cut (size R.edition.width (last_term R h)) result.term) result.memory k next_term next_memory ≡ move_result R h x next_term next_memory
    move_is k x e next_term next_memory r = moves_are k (some x) e next_term next_memory r
        ∙ (λ i. record {
          answer = answered (record { action = x.action; size = size R.edition.width x.successor });
          term = written (words R.edition.width x.successor) next_term;
          memory = written (memory_words (renewed_there (last_term R h) (last_trace R h) (cut (size R.edition.width (last_term R h)) result.term) result.memory term_given cells_are room_left reach_kept x i)) next_memory;
        })

    agreed : Demand3 rules list table term memory spare_term spare_memory S
    unfolding h there
    agreed = record {
      R = R;
      admitted = a;
      reported = sym s;
      h = h;
      chain = history_chain (attributes R) (unfold_main R) (numbers_in list);
      all_counted = (machines_agree (attributes R) (unfold_main R) (numbers_in list)).all_counted;
      visible_in_trace = (machines_agree (attributes R) (unfold_main R) (numbers_in list)).visible_in_trace;
      run_agrees = run_is;
      reach_kept = reach_kept;
      breadth_kept = breadth_kept;
      did = did;
      did_is = refl;
      did_counted = did_counted;
      table_agrees = subst (TableAfter (readers_in list) did table) (sym table_is)
          (table_after (readers_in list) did table (through_room list table through) did_many (through_readers list table through));
      derived = demand_2_trace (attributes R) (last_trace R h) (last_term R h);
      count_agrees = ap (λ (w : Written Ran). count rules (cut (size R.edition.width (last_term R h)) w.term) w.memory) run_is
          ∙ count_there (last_term R h) (last_trace R h) (cut (size R.edition.width (last_term R h)) result.term) result.memory term_given cells_are room_left reach_kept;
      move_agrees = λ k x e next_term next_memory r.
          ap (λ (w : Written Ran). move rules (cut (size R.edition.width (last_term R h)) w.term) w.memory k next_term next_memory) run_is ∙ move_is k x e next_term next_memory r;
      move_refuses = λ k l next_term next_memory r.
          ap (λ (w : Written Ran). move rules (cut (size R.edition.width (last_term R h)) w.term) w.memory k next_term next_memory) run_is
          ∙ moves_are k none (beyond_none (history_moves R h) k l) next_term next_memory r;
    }

pub demand_3 : Demand3Holds
demand_3 rules list table term memory spare_term spare_memory S e room spare through =
    let p = admit_reports rules S e in
    agreed rules S p.0 p.1 p.2 list table term memory spare_term spare_memory room spare through
