-- The operations as total functions on byte lists, with the lent buffers afterwards (document 01, "Operations"). Each call admits the rule set and
-- checks everything itself. The contracts of the exported functions are equations in these names.
use Rattle.std.specs.Prelude.{◌≡◌, Bool, ◌&&◌, List, ◌++◌, ℕ, ◌-◌, ◌*◌, ◌%◌, eqb, leb, length, drop}
use Rattle.std.proofs.Math.Option.{Option, none, some}
use Rattle.std.proofs.Math.ListN.{get_elem?, replicate}
use Rattle.eb3.specs.Refusal
use Rattle.eb3.specs.Values.{Value}
use Rattle.eb3.specs.Terms.{Term, Action}
use Rattle.eb3.specs.Moves.{Move, moves, first_with}
use Rattle.eb3.specs.Derivations.{state_after}
use Rattle.eb3.specs.Cells.{total_cells, initial_cells, all_values}
use Rattle.eb3.specs.Semantics.{Sem_M}
use Rattle.eb3.specs.Machines.{history_run, history_outcomes}
use Rattle.eb3.specs.Sizes.{size, reach, breadth}
use Rattle.eb3.specs.RuleSets.{RuleSet, attributes}
use Rattle.eb3.specs.Unfolding.{unfold_main}
use Rattle.eb3.specs.Spelling.{words}
use Rattle.eb3.specs.Reading.{pick}
use Rattle.eb3.specs.TermReading.{given_term, given_event}
use Rattle.eb3.specs.Bytes.{words_in, word_count, written}
use Rattle.eb3.specs.Memory.{cell_room, memory_words, cells_in}
use Rattle.eb3.specs.Answers.{Answer, refused, answered, or_refused, and_then, Sizes, Moved, Ran, Written, unwritten, Tabled, untabled}
use Rattle.eb3.specs.Readers.{numbers_in, readers_in, lets_through, counts_by_reader, increased}
use Rattle.eb3.specs.Admission.{admission}

-- What an admitted rule set needs: C cells, and main's G words.
abbrev pub cells_needed : RuleSet → ℕ
cells_needed R = total_cells (attributes R)

abbrev pub main_reach : RuleSet → ℕ
main_reach R = reach R.edition.width (unfold_main R)

abbrev pub sizes_needed : RuleSet → Sizes
sizes_needed R = record { cells = cells_needed R; reach = main_reach R; breadth = breadth (unfold_main R); size = size R.edition.width (unfold_main R) }

abbrev pub term_fits : ℕ → List ℕ → Bool
term_fits reach buffer = leb reach (word_count buffer)

abbrev pub memory_fits : RuleSet → List ℕ → Bool
memory_fits R memory = leb (cells_needed R) (cell_room memory)

-- Refusals 10 and 11: a term and an event are whole words.
abbrev pub even : List ℕ → Bool
even s = eqb (length s % 2) 0

abbrev pub term_in : RuleSet → List ℕ → Answer Term
term_in R term = pick (even term) (or_refused Refusal.term (given_term R (words_in term))) (refused Refusal.term)

abbrev pub event_in : RuleSet → List ℕ → Answer Action
event_in R event = pick (even event) (or_refused Refusal.stranger (given_event R (words_in event))) (refused Refusal.stranger)

-- The moves of a term at the cells of a memory.
abbrev pub cells_given : RuleSet → List ℕ → List Value
cells_given R memory = cells_in R.edition.top (cells_needed R) memory

abbrev pub listed : RuleSet → Term → List ℕ → List Move
listed R E memory = moves ((Sem_M (attributes R)).satisfies (cells_given R memory)) E

abbrev pub numbered : List Move → Option ℕ → Option Move
numbered xs none = none
numbered xs (some k) = get_elem? xs k

-- The smallest k whose action is the given event.
abbrev pub at_first : Action → List Move → Option Move
at_first ρ xs = numbered xs (first_with ρ xs)

-- With an answer a buffer is written, without one nothing is.
abbrev pub writing : {X Y : Type 0} → List ℕ → List ℕ → Answer X → (X → Written Y) → Written Y
writing term memory (refused k) f = unwritten term memory k
writing term memory (answered x) f = f x

unfoldable pub admit : List ℕ → Answer Sizes
admit rules = and_then (admission rules) λ R. answered (sizes_needed R)

-- Start.
abbrev pub started : List ℕ → List ℕ → RuleSet → Written ℕ
started term memory R = record {
  answer = answered (size R.edition.width (unfold_main R));
  term = written (words R.edition.width (unfold_main R)) term;
  memory = written (memory_words (initial_cells (attributes R))) memory;
}

-- At an admitted rule set: refusal 9, or the start.
abbrev pub started_at : List ℕ → List ℕ → RuleSet → Written ℕ
started_at term memory R = pick (term_fits (main_reach R) term && memory_fits R memory) (started term memory R) (unwritten term memory Refusal.space)

unfoldable pub start : List ℕ → List ℕ → List ℕ → Written ℕ
start rules term memory = writing term memory (admission rules) λ R. started_at term memory R

-- Count. At an admitted rule set and a given term: refusal 9, or the number of moves.
abbrev pub counted_at : RuleSet → Term → List ℕ → Answer ℕ
counted_at R E memory = pick (memory_fits R memory) (answered (length (listed R E memory))) (refused Refusal.space)

unfoldable pub count : List ℕ → List ℕ → List ℕ → Answer ℕ
count rules term memory =
    and_then (admission rules) λ R.
    and_then (term_in R term) λ E.
    counted_at R E memory

-- What a move writes: its successor, and the memory that its action leaves of the given cells.
abbrev pub moved_from : RuleSet → List Value → List ℕ → List ℕ → Move → Written Moved
moved_from R cells next_term next_memory x = record {
  answer = answered (record { action = x.action; size = size R.edition.width x.successor });
  term = written (words R.edition.width x.successor) next_term;
  memory = written (memory_words (state_after (Sem_M (attributes R)) cells x.action)) next_memory;
}

abbrev pub moved : RuleSet → List ℕ → List ℕ → List ℕ → Move → Written Moved
moved R memory next_term next_memory x = moved_from R (cells_given R memory) next_term next_memory x

-- Refusal 9, then 12: the move that a choice among the listed ones gives.
abbrev pub chosen : RuleSet → Term → List ℕ → List ℕ → List ℕ → (List Move → Option Move) → Written Moved
chosen R E memory next_term next_memory choose =
    pick (term_fits (reach R.edition.width E) next_term && (memory_fits R memory && memory_fits R next_memory))
    (writing next_term next_memory (or_refused Refusal.not_offered (choose (listed R E memory))) (moved R memory next_term next_memory))
    (unwritten next_term next_memory Refusal.space)

-- What Move and Present choose by: a number k; the given event, or refusal 11.
abbrev pub choice_by_number : ℕ → Answer (List Move → Option Move)
choice_by_number k = answered λ xs. get_elem? xs k

abbrev pub choice_by_event : RuleSet → List ℕ → Answer (List Move → Option Move)
choice_by_event R event = and_then (event_in R event) λ ρ. answered (at_first ρ)

-- Both, at an admitted rule set and a given term.
abbrev pub stepped_from : RuleSet → Term → List ℕ → List ℕ → List ℕ → Answer (List Move → Option Move) → Written Moved
stepped_from R E memory next_term next_memory choice = writing next_term next_memory choice λ choose. chosen R E memory next_term next_memory choose

-- Move k.
unfoldable pub move : List ℕ → List ℕ → List ℕ → ℕ → List ℕ → List ℕ → Written Moved
move rules term memory k next_term next_memory =
    writing next_term next_memory (admission rules) λ R.
    writing next_term next_memory (term_in R term) λ E.
    stepped_from R E memory next_term next_memory (choice_by_number k)

-- Present.
unfoldable pub present : List ℕ → List ℕ → List ℕ → List ℕ → List ℕ → List ℕ → Written Moved
present rules term memory event next_term next_memory =
    writing next_term next_memory (admission rules) λ R.
    writing next_term next_memory (term_in R term) λ E.
    stepped_from R E memory next_term next_memory (choice_by_event R event)

-- Run, by a list of move numbers: what the history machine ends with. The last term, zeros up to main's G; every function's values over the whole list.
abbrev pub ran : List ℕ → List ℕ → List ℕ → RuleSet → Written Ran
ran numbers term memory R =
    let h = history_run (attributes R) (unfold_main R) numbers in
    record {
      answer = answered (record { size = size R.edition.width h.state.term; visible = h.visible_count; internal = h.internal_count; refusals = h.refused_count });
      term = written (words R.edition.width h.state.term ++ replicate (main_reach R - size R.edition.width h.state.term) 0) term;
      memory = written (memory_words (all_values (attributes R) h.state.state)) memory;
    }

-- Request K1's table: to each reader's record is added what the history machine counts at that reader's numbers.
abbrev pub reader_counts : List ℕ → RuleSet → List ℕ
reader_counts list R = counts_by_reader (readers_in list) (history_outcomes (attributes R) (unfold_main R) (numbers_in list))

abbrev pub ran_with : List ℕ → List ℕ → List ℕ → List ℕ → RuleSet → Tabled Ran
ran_with list table term memory R = record { written = ran (numbers_in list) term memory R; table = increased (reader_counts list R) table }

-- With an answer the table and the buffers are written, without one nothing is.
abbrev pub tabling : {X Y : Type 0} → List ℕ → List ℕ → List ℕ → Answer X → (X → Tabled Y) → Tabled Y
tabling table term memory (refused k) f = untabled table term memory k
tabling table term memory (answered x) f = f x

abbrev pub run_fits : RuleSet → List ℕ → List ℕ → List ℕ → List ℕ → Bool
run_fits R term memory spare_term spare_memory =
    (term_fits (main_reach R) term && memory_fits R memory) && (term_fits (main_reach R) spare_term && memory_fits R spare_memory)

-- At an admitted rule set: refusal 9, then 13, or the run. The scratch buffers count by their room only; what they hold afterwards is said by ScratchAfter.
abbrev pub ran_at : List ℕ → List ℕ → List ℕ → List ℕ → List ℕ → List ℕ → RuleSet → Tabled Ran
ran_at list table term memory spare_term spare_memory R =
    pick (run_fits R term memory spare_term spare_memory)
    (pick (lets_through list table) (ran_with list table term memory R) (untabled table term memory Refusal.reader))
    (untabled table term memory Refusal.space)

unfoldable pub run : List ℕ → List ℕ → List ℕ → List ℕ → List ℕ → List ℕ → List ℕ → Tabled Ran
run rules list table term memory spare_term spare_memory =
    tabling table term memory (admission rules) λ R. ran_at list table term memory spare_term spare_memory R

-- A scratch buffer afterwards: a refusal writes nothing; else its words may be anything, and an odd last byte is kept.
abbrev pub ScratchAfter : {X : Type 0} → Answer X → List ℕ → List ℕ → Type 0
ScratchAfter (refused k) spare spare' = spare' ≡ spare
ScratchAfter (answered x) spare spare' = (length spare' ≡ length spare) × (drop (2 * word_count spare) spare' ≡ drop (2 * word_count spare) spare)
