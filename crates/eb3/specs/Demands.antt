-- The demands as statements about the operations on bytes (document 01, "Operations" and "Four questions about contracts"); they are proved in
-- Laws/DemandOne, Laws/Order, Laws/DemandTwo and Laws/DemandThree. The operations are those that the exported contracts equal.
use Rattle.std.specs.Prelude.{◌≡◌, true, false, ◌&&◌, ℕ, ◌+◌, ◌-◌, ◌*◌, ◌%◌, ◌≤◌, take, drop, replicate, T}
use mathlib.Core.List.{List, [], ◌++◌}
use Rattle.std.proofs.Math.Option.{none, some}
use Rattle.std.proofs.Math.ListN.{length, get_elem?}
use Rattle.eb3.specs.Generic.Lists.{one_of}
use Rattle.eb3.specs.Generic.Positions.{Enumeration}
use Rattle.eb3.specs.Refusal
use Rattle.eb3.specs.Limits
use Rattle.eb3.specs.Values.{Value}
use Rattle.eb3.specs.Terms.{Term, Action}
use Rattle.eb3.specs.Moves.{Move, moves, first_with}
use Rattle.eb3.specs.Derivations.{Derivation, Earlier, state_after}
use Rattle.eb3.specs.Attributes.{Trace}
use Rattle.eb3.specs.Cells.{all_values}
use Rattle.eb3.specs.TransitionSystems.{Outcome, visible?, internal?, refused?, tally}
use Rattle.eb3.specs.Semantics.{Sem_T, Sem_M, situation, system, concluded}
use Rattle.eb3.specs.Machines.{Machine, Chain, history_start, history_outcomes}
use Rattle.eb3.specs.Sizes.{size, reach, breadth}
use Rattle.eb3.specs.RuleSets.{RuleSet, attributes}
use Rattle.eb3.specs.Unfolding.{unfold_main}
use Rattle.eb3.specs.Spelling.{words}
use Rattle.eb3.specs.Bytes.{word_count, written}
use Rattle.eb3.specs.Memory.{cell_room, memory_words}
use Rattle.eb3.specs.Answers.{refused, answered, Sizes, Moved, Ran, Written, unwritten, Tabled, untabled}
use Rattle.eb3.specs.Readers.{numbers_in, readers_in, lets_through, at_reader, counts_by_reader, increased, record_number, column_sum}
use Rattle.eb3.specs.Admission.{admission}
use Rattle.eb3.specs.Operations.{cells_needed, sizes_needed, main_reach, term_fits, memory_fits, term_in, event_in, cells_given, listed, run_fits, admit, start, count, move, present, run}

-- Buffers of the reported sizes.
pub record Roomy (S : Sizes) (term memory : List ℕ) : Type 0 where
  pub term_room : S.reach ≤ word_count term
  pub memory_room : S.cells ≤ cell_room memory

-- Demand 1. A refusal is one of the operation's numbers, and leaves each buffer as it was given.
pub record RefusedAs {X : Type 0} (ks : List ℕ) (term memory : List ℕ) (w : Written X) : Type 0 where
  pub number : (k : ℕ) → w.answer ≡ refused k → T (one_of ks k)
  pub nothing_written : (k : ℕ) → w.answer ≡ refused k → (w.term ≡ term) × (w.memory ≡ memory)

pub record Demand1Refusals (rules list table term memory event next_term next_memory spare_term spare_memory : List ℕ) (k : ℕ) : Type 0 where
  pub admit_refused : (j : ℕ) → admit rules ≡ refused j → T (one_of Refusal.of_admission j)
  pub start_refused : RefusedAs Refusal.of_start term memory (start rules term memory)
  pub count_refused : (j : ℕ) → count rules term memory ≡ refused j → T (one_of Refusal.of_count j)
  pub move_refused : RefusedAs Refusal.of_move next_term next_memory (move rules term memory k next_term next_memory)
  pub present_refused : RefusedAs Refusal.of_present next_term next_memory (present rules term memory event next_term next_memory)
  pub run_refused : RefusedAs Refusal.of_run term memory (run rules list table term memory spare_term spare_memory).written
  pub run_table_kept : (j : ℕ) → (run rules list table term memory spare_term spare_memory).written.answer ≡ refused j
      → (run rules list table term memory spare_term spare_memory).table ≡ table

-- The table's order: what admission refuses every operation refuses by the same number, whatever else is given; a wrong term comes before a wrong event,
-- both before space, and space before a move that is not offered and before Run's readers. (The order of 1 to 8 is said by Refuses in the crate demanded.)
pub record Demand1Order (rules list table term memory event next_term next_memory spare_term spare_memory : List ℕ) (k : ℕ) : Type 0 where
  pub admission_first : (j : ℕ) → admission rules ≡ refused j
      → (admit rules ≡ refused j) × (start rules term memory ≡ unwritten term memory j) × (count rules term memory ≡ refused j)
      × (move rules term memory k next_term next_memory ≡ unwritten next_term next_memory j)
      × (present rules term memory event next_term next_memory ≡ unwritten next_term next_memory j)
      × (run rules list table term memory spare_term spare_memory ≡ untabled table term memory j)
  pub term_next : (R : RuleSet) → admission rules ≡ answered R → (j : ℕ) → term_in R term ≡ refused j
      → (count rules term memory ≡ refused j) × (move rules term memory k next_term next_memory ≡ unwritten next_term next_memory j)
      × (present rules term memory event next_term next_memory ≡ unwritten next_term next_memory j)
  pub event_next : (R : RuleSet) (E : Term) → admission rules ≡ answered R → term_in R term ≡ answered E → (j : ℕ) → event_in R event ≡ refused j
      → present rules term memory event next_term next_memory ≡ unwritten next_term next_memory j
  pub space_before_offer : (R : RuleSet) (E : Term) → admission rules ≡ answered R → term_in R term ≡ answered E
      → (term_fits (reach R.edition.width E) next_term && (memory_fits R memory && memory_fits R next_memory)) ≡ false
      → (move rules term memory k next_term next_memory ≡ unwritten next_term next_memory Refusal.space)
      × ((ρ : Action) → event_in R event ≡ answered ρ → present rules term memory event next_term next_memory ≡ unwritten next_term next_memory Refusal.space)
  -- Start and Count have no test after space: where a buffer is short, that is what they say. Run has one, of its list and its table.
  pub start_short : (R : RuleSet) → admission rules ≡ answered R → (term_fits (main_reach R) term && memory_fits R memory) ≡ false
      → start rules term memory ≡ unwritten term memory Refusal.space
  pub count_short : (R : RuleSet) (E : Term) → admission rules ≡ answered R → term_in R term ≡ answered E → memory_fits R memory ≡ false
      → count rules term memory ≡ refused Refusal.space
  pub run_short : (R : RuleSet) → admission rules ≡ answered R
      → run_fits R term memory spare_term spare_memory ≡ false → run rules list table term memory spare_term spare_memory ≡ untabled table term memory Refusal.space
  pub run_reader : (R : RuleSet) → admission rules ≡ answered R → run_fits R term memory spare_term spare_memory ≡ true → lets_through list table ≡ false
      → run rules list table term memory spare_term spare_memory ≡ untabled table term memory Refusal.reader

-- An admitted rule set never lacks space in buffers of the reported sizes; a move from any given term never does in buffers of that term's G.
pub record Demand1Space (rules : List ℕ) (S : Sizes) : Type 0 where
  pub start_has_room : (term memory : List ℕ) → Roomy S term memory → (start rules term memory).answer ≡ answered S.size
  -- Then Run answers every list and table that 13 lets through, and refuses every other by 13.
  pub run_has_room : (list table term memory spare_term spare_memory : List ℕ) → Roomy S term memory → Roomy S spare_term spare_memory → T (lets_through list table)
      → (r : Ran) × ((run rules list table term memory spare_term spare_memory).written.answer ≡ answered r)
  pub run_readers : (list table term memory spare_term spare_memory : List ℕ) → Roomy S term memory → Roomy S spare_term spare_memory → lets_through list table ≡ false
      → run rules list table term memory spare_term spare_memory ≡ untabled table term memory Refusal.reader
  pub count_has_room : (term memory : List ℕ) → S.cells ≤ cell_room memory → count rules term memory ≡ refused Refusal.space → ⊥
  pub move_has_room : (R : RuleSet) → admission rules ≡ answered R → (E : Term) (term memory next_term next_memory : List ℕ) (k : ℕ)
      → term_in R term ≡ answered E → reach R.edition.width E ≤ word_count next_term → S.cells ≤ cell_room memory → S.cells ≤ cell_room next_memory
      → (move rules term memory k next_term next_memory).answer ≡ refused Refusal.space → ⊥
  pub present_has_room : (R : RuleSet) → admission rules ≡ answered R → (E : Term) (term memory event next_term next_memory : List ℕ)
      → term_in R term ≡ answered E → reach R.edition.width E ≤ word_count next_term → S.cells ≤ cell_room memory → S.cells ≤ cell_room next_memory
      → (present rules term memory event next_term next_memory).answer ≡ refused Refusal.space → ⊥
  -- What is reported is within the limits, and the start term is no larger than its reach.
  pub limits_kept : (S.reach ≤ 8192) × (S.breadth ≤ 65535) × (S.size ≤ S.reach) × (S.cells ≤ 1024)

-- Demand 2, of Count and Move on any rule set admitted, any term given and any memory: the moves are exactly the derivations of the memory semantics
-- from the given term and cells, one to one, in order.
module _ (rules term memory : List ℕ) (R : RuleSet) (E : Term) where
  abbrev pub cells_now : List Value
  cells_now = cells_given R memory

  -- A derivation's outcome: its action, its successor and its new memory.
  abbrev pub derived_result : Derivation (Sem_M (attributes R)) cells_now E → List ℕ → List ℕ → Written Moved
  derived_result d next_term next_memory = record {
    answer = answered (record { action = d.action; size = size R.edition.width d.successor });
    term = written (words R.edition.width d.successor) next_term;
    memory = written (memory_words d.state) next_memory;
  }

  pub record Demand2 : Type 0 where
    pub moves_listed : ℕ
    pub counted : count rules term memory ≡ answered moves_listed
    pub derivations : Enumeration (Derivation (Sem_M (attributes R)) cells_now E) Earlier concluded ((system (Sem_M (attributes R))).transitions (situation E cells_now))
    pub all_listed : length ((system (Sem_M (attributes R))).transitions (situation E cells_now)) ≡ moves_listed
    pub moved : (d : Derivation (Sem_M (attributes R)) cells_now E) (next_term next_memory : List ℕ) → reach R.edition.width E ≤ word_count next_term → cells_needed R ≤ cell_room next_memory
        → move rules term memory (derivations.numbers.fun d).0 next_term next_memory ≡ derived_result d next_term next_memory
    pub no_other : (k : ℕ) → moves_listed ≤ k → (next_term next_memory : List ℕ) → reach R.edition.width E ≤ word_count next_term → cells_needed R ≤ cell_room next_memory
        → move rules term memory k next_term next_memory ≡ unwritten next_term next_memory Refusal.not_offered
    -- As many as the breadth at the most; and Present is Move at the first that has the event.
    pub breadth_bounds : moves_listed ≤ breadth E
    pub presented : (ρ : Action) (event : List ℕ) → event_in R event ≡ answered ρ → (k : ℕ) → first_with ρ (listed R E memory) ≡ some k → (next_term next_memory : List ℕ)
        → present rules term memory event next_term next_memory ≡ move rules term memory k next_term next_memory
    pub not_presented : (ρ : Action) (event : List ℕ) → event_in R event ≡ answered ρ → first_with ρ (listed R E memory) ≡ none → (next_term next_memory : List ℕ)
        → present rules term memory event next_term next_memory ≡ move rules term memory moves_listed next_term next_memory

-- The history machine's last term and list, and its moves there: the trace semantics.
abbrev pub last_term : (R : RuleSet) → Machine (Sem_T (attributes R)) → Term
last_term R h = h.state.term

abbrev pub last_trace : (R : RuleSet) → Machine (Sem_T (attributes R)) → Trace
last_trace R h = h.state.state

abbrev pub history_moves : (R : RuleSet) → Machine (Sem_T (attributes R)) → List Move
history_moves R h = moves ((Sem_T (attributes R)).satisfies (last_trace R h)) (last_term R h)

-- All functions' values over a trace, as a memory's words.
abbrev pub values_words : RuleSet → Trace → List ℕ
values_words R T = memory_words (all_values (attributes R) T)

-- What Run leaves, where the history machine ends with h: its term, zeros up to main's G, the values over its whole list; its size and counts.
abbrev pub run_result : (R : RuleSet) → Machine (Sem_T (attributes R)) → List ℕ → List ℕ → Written Ran
run_result R h term memory = record {
  answer = answered (record { size = size R.edition.width (last_term R h); visible = h.visible_count; internal = h.internal_count; refusals = h.refused_count });
  term = written (words R.edition.width (last_term R h) ++ replicate (main_reach R - size R.edition.width (last_term R h)) 0) term;
  memory = written (values_words R (last_trace R h)) memory;
}

-- What Move leaves for the machine's move x: its action and successor, and the values over the list that this move leaves.
abbrev pub move_result : (R : RuleSet) → Machine (Sem_T (attributes R)) → Move → List ℕ → List ℕ → Written Moved
move_result R h x next_term next_memory = record {
  answer = answered (record { action = x.action; size = size R.edition.width x.successor });
  term = written (words R.edition.width x.successor) next_term;
  memory = written (values_words R (state_after (Sem_T (attributes R)) (last_trace R h) x.action)) next_memory;
}

-- A term buffer cut to n words.
abbrev pub cut : ℕ → List ℕ → List ℕ
cut n buffer = take (2 * n) buffer

-- Start is the run of no numbers, but that it writes no zeros.
pub record StartIsRun (rules table term memory spare_term spare_memory : List ℕ) (S : Sizes) : Type 0 where
  pub same_size : (start rules term memory).answer ≡ answered S.size
  pub same_term : cut S.size (start rules term memory).term ≡ cut S.size (run rules [] table term memory spare_term spare_memory).written.term
  pub same_memory : (start rules term memory).memory ≡ (run rules [] table term memory spare_term spare_memory).written.memory

-- The table after a run (request K1), where the numbers' readers were rs and os is what each number did: every reader's record is increased, modulo
-- 4,294,967,296, by what was counted at its numbers; bytes after the thirty-second record keep their values. The sums over all
-- readers' records grow by the three counts, modulo 4,294,967,296.
pub record TableAfter (rs : List ℕ) (os : List Outcome) (table table' : List ℕ) : Type 0 where
  pub table_is : table' ≡ increased (counts_by_reader rs os) table
  pub visible_increase : (r : ℕ) → 1 ≤ r → r ≤ Limits.readers → record_number table' r 0 ≡ (record_number table r 0 + tally visible? (at_reader r rs os)) % 4294967296
  pub internal_increase : (r : ℕ) → 1 ≤ r → r ≤ Limits.readers → record_number table' r 1 ≡ (record_number table r 1 + tally internal? (at_reader r rs os)) % 4294967296
  pub refused_increase : (r : ℕ) → 1 ≤ r → r ≤ Limits.readers → record_number table' r 2 ≡ (record_number table r 2 + tally refused? (at_reader r rs os)) % 4294967296
  pub rest_kept : drop (12 * Limits.readers) table' ≡ drop (12 * Limits.readers) table
  pub same_length : length table' ≡ length table
  pub visible_adds_up : column_sum 0 table' % 4294967296 ≡ (column_sum 0 table + tally visible? os) % 4294967296
  pub internal_adds_up : column_sum 1 table' % 4294967296 ≡ (column_sum 1 table + tally internal? os) % 4294967296
  pub refused_adds_up : column_sum 2 table' % 4294967296 ≡ (column_sum 2 table + tally refused? os) % 4294967296

-- Demand 3, one claim about the whole list of numbers, each with its reader (request K1).
module _ (rules list table term memory spare_term spare_memory : List ℕ) (S : Sizes) where
  abbrev pub after : Tabled Ran
  after = run rules list table term memory spare_term spare_memory

  pub record Demand3 : Type 0 where
    -- The rule set that the bytes are, and where the history machine, fed it and the numbers, ends: by derivations of the trace semantics.
    pub R : RuleSet
    pub admitted : admission rules ≡ answered R
    pub reported : S ≡ sizes_needed R
    pub h : Machine (Sem_T (attributes R))
    pub chain : Chain (Sem_T (attributes R)) (history_start (attributes R) (unfold_main R)) (numbers_in list) h
    pub all_counted : length (numbers_in list) ≡ h.visible_count + h.internal_count + h.refused_count
    pub visible_in_trace : h.visible_count ≡ length (last_trace R h)
    -- Run leaves exactly that, within main's reach and breadth.
    pub run_agrees : after.written ≡ run_result R h term memory
    pub reach_kept : reach R.edition.width (last_term R h) ≤ S.reach
    pub breadth_kept : breadth (last_term R h) ≤ S.breadth
    -- What each number did on the way, of which the counts are the tallies; the table by reader.
    pub did : List Outcome
    pub did_is : did ≡ history_outcomes (attributes R) (unfold_main R) (numbers_in list)
    pub did_counted : (h.visible_count ≡ tally visible? did) × (h.internal_count ≡ tally internal? did) × (h.refused_count ≡ tally refused? did)
    pub table_agrees : TableAfter (readers_in list) did table after.table
    -- The machine's moves there are the derivations of the trace semantics, one to one, in order.
    pub derived : Enumeration (Derivation (Sem_T (attributes R)) (last_trace R h) (last_term R h)) Earlier concluded ((system (Sem_T (attributes R))).transitions h.state)
    -- The moves then listed, on the last memory and the last term cut to its size, are the machine's.
    pub count_agrees : count rules (cut (size R.edition.width (last_term R h)) after.written.term) after.written.memory ≡ answered (length (history_moves R h))
    pub move_agrees : (k : ℕ) (x : Move) → get_elem? (history_moves R h) k ≡ some x → (next_term next_memory : List ℕ) → Roomy S next_term next_memory
        → move rules (cut (size R.edition.width (last_term R h)) after.written.term) after.written.memory k next_term next_memory ≡ move_result R h x next_term next_memory
    pub move_refuses : (k : ℕ) → length (history_moves R h) ≤ k → (next_term next_memory : List ℕ) → Roomy S next_term next_memory
        → move rules (cut (size R.edition.width (last_term R h)) after.written.term) after.written.memory k next_term next_memory ≡ unwritten next_term next_memory Refusal.not_offered

-- ── what is proved, with all that it asks ──

abbrev pub RefusalsHold : Type 0
RefusalsHold = (rules list table term memory event next_term next_memory spare_term spare_memory : List ℕ) (k : ℕ)
    → Demand1Refusals rules list table term memory event next_term next_memory spare_term spare_memory k

abbrev pub OrderHolds : Type 0
OrderHolds = (rules list table term memory event next_term next_memory spare_term spare_memory : List ℕ) (k : ℕ)
    → Demand1Order rules list table term memory event next_term next_memory spare_term spare_memory k

abbrev pub SpaceHolds : Type 0
SpaceHolds = (rules : List ℕ) (S : Sizes) → admit rules ≡ answered S → Demand1Space rules S

-- Of every term that is given, and every memory that has the cells.
abbrev pub Demand2Holds : Type 0
Demand2Holds = (rules term memory : List ℕ) (R : RuleSet) (E : Term) → admission rules ≡ answered R → term_in R term ≡ answered E
    → cells_needed R ≤ cell_room memory → Demand2 rules term memory R E

-- For all bytes, buffers, and lists and tables that 13 lets through, if admit answers sizes and the buffers have them.
abbrev pub Demand3Holds : Type 0
Demand3Holds = (rules list table term memory spare_term spare_memory : List ℕ) (S : Sizes) → admit rules ≡ answered S → Roomy S term memory → Roomy S spare_term spare_memory
    → T (lets_through list table) → Demand3 rules list table term memory spare_term spare_memory S
