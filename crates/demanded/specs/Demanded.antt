-- The demands as a description of any six operations, in plain terms: document 01's numbers as numerals, buffers by list equations, room as half the
-- number of bytes (document 01, "Operations", its table, and "Four questions about contracts": the full outcome for every input, by equation; document 02, K1).
-- Proved in Laws/Demanded: the operations of eb3 meet them (`ours`), and any six that meet them are those (`theirs`).
use Rattle.std.specs.Prelude.{◌≡◌, cond, ℕ, ◌-◌, ◌*◌, ◌/◌, ◌%◌, ◌≤◌, leb, length, take, drop, replicate, ◌↔◌, Bool, ◌&&◌, ◌+◌, eqb}
use mathlib.Core.List.{List, [], ◌∷◌, ◌++◌, map}
use Rattle.eb3.specs.Generic.Lists.{concat_map}
use Rattle.eb3.specs.Generic.Positions.{Enumeration}
use Rattle.eb3.specs.Values.{Value, undefined, number}
use Rattle.eb3.specs.Terms.{Term, Action, internal, visible, VisibleAction}
use Rattle.eb3.specs.Derivations.{Step, Derivation, derivation, Earlier}
use Rattle.eb3.specs.Attributes.{Trace}
use Rattle.eb3.specs.Cells.{total_cells, all_values}
use Rattle.eb3.specs.TransitionSystems.{Transition, Outcome, took_visible, took_internal, refused as passed_over, visible?, internal?, refused?, tally}
use Rattle.eb3.specs.Semantics.{Sem_T, Sem_M, Situation, concluded}
use Rattle.eb3.specs.Sizes.{size, reach, breadth}
use Rattle.eb3.specs.RuleSets.{RuleSet, attributes}
use Rattle.eb3.specs.Unfolding.{unfold_main}
use Rattle.eb3.specs.Spelling.{words}
use Rattle.eb3.specs.TermReading.{term_of_action}
use Rattle.eb3.specs.Bytes.{words_in}
use Rattle.eb3.specs.Answers.{Answer, refused, answered, Sizes, Moved, Ran, Written, Tabled}
use Rattle.eb3.specs.WellFormedness.{WellFormedTerm, WellFormedAction}
use Rattle.demanded.specs.Admitting.{G, W, Admits, Refuses}

-- ── buffers ──

-- A buffer whose bytes 0 to 2n - 1 are n words, low byte first, and whose other bytes are as given.
abbrev pub overwritten : List ℕ → List ℕ → List ℕ
overwritten ws buffer = concat_map (λ w. w % 256 ∷ w / 256 % 256 ∷ []) ws ++ drop (2 * length ws) buffer

-- A refusal: its number, and both buffers as given.
abbrev pub only_refused : {X : Type 0} → ℕ → List ℕ → List ℕ → Written X
only_refused k term memory = record { answer = refused k; term = term; memory = memory }

-- Run's table is as given, too.
abbrev pub only_run_refused : ℕ → List ℕ → List ℕ → List ℕ → Tabled Ran
only_run_refused k table term memory = record { written = only_refused k term memory; table = table }

-- A cell's word, and the value that a word is where top is the largest number.
abbrev pub word_of : Value → ℕ
word_of undefined = 65535
word_of (number n) = n

abbrev pub value_of : ℕ → ℕ → Value
value_of top w = cond (leb w top) (number w) undefined

-- C; the values of a memory's first C words; all functions' values over a trace, as words.
module _ (R : RuleSet) where
  abbrev pub C : ℕ
  C = total_cells (attributes R)

  abbrev pub cells_of : List ℕ → List Value
  cells_of memory = map (value_of R.edition.top) (take C (words_in memory))

  abbrev pub values_over : Trace → List ℕ
  values_over T = map word_of (all_values (attributes R) T)

-- ── refusals 10 and 11: what is given ──

pub record GivenTerm (R : RuleSet) (term : List ℕ) (E : Term) : Type 0 where
  pub even : length term % 2 ≡ 0
  pub spelled : words_in term ≡ words R.edition.width E
  pub form : WellFormedTerm R E
  pub reach_limit : reach R.edition.width E ≤ 8192
  pub breadth_limit : breadth E ≤ 65535

pub record GivenEvent (R : RuleSet) (event : List ℕ) (ρ : Action) : Type 0 where
  pub even : length event % 2 ≡ 0
  pub spelled : words_in event ≡ words R.edition.width (term_of_action ρ)
  pub well_formed : WellFormedAction R ρ

-- ── refusal 9: room ──

abbrev pub Room : ℕ → List ℕ → Type 0
Room n buffer = n ≤ length buffer / 2

-- Move, Present: the given term's G; both memories.
pub record MoveRoom (R : RuleSet) (E : Term) (memory next_term next_memory : List ℕ) : Type 0 where
  pub term_room : Room (reach R.edition.width E) next_term
  pub given_room : Room (C R) memory
  pub memory_room : Room (C R) next_memory

pub record RunRoom (R : RuleSet) (term memory spare_term spare_memory : List ℕ) : Type 0 where
  pub term_room : Room (G R) term
  pub memory_room : Room (C R) memory
  pub spare_term_room : Room (G R) spare_term
  pub spare_memory_room : Room (C R) spare_memory

-- ── refusal 13 (document 02, K1): each number of Run's list is followed by its reader, 1 to 32; the table has 32 records of 12 bytes ──

-- Words are numbers and their readers by turns.
pub data Paired : List ℕ → List ℕ → List ℕ → Type 0 where
  none : Paired [] [] []
  pair : {k r : ℕ} {ws ns rs : List ℕ} → 1 ≤ r → r ≤ 32 → Paired ws ns rs → Paired (k ∷ r ∷ ws) (k ∷ ns) (r ∷ rs)

pub record LetThrough (list table numbers readers : List ℕ) : Type 0 where
  pub paired : Paired (words_in list) numbers readers
  pub records : 32 ≤ length table / 12

-- ── outcomes ──

-- The derivations of the memory semantics from a term and a memory's cells.
abbrev pub Derived : RuleSet → Term → List ℕ → Type 0
Derived R E memory = Derivation (Sem_M (attributes R)) (cells_of R memory) E

-- Numbered from 0 in their order, as many as the list is long (one such list there is, but none is named).
abbrev pub Outcomes : RuleSet → Type 0
Outcomes R = List (Transition (Situation (Sem_M (attributes R))))

abbrev pub Numbering : (R : RuleSet) (E : Term) (memory : List ℕ) → Outcomes R → Type 0
Numbering R E memory l = Enumeration (Derived R E memory) Earlier concluded l

-- What Move and Present leave for a derivation: its action, its successor, its new memory.
abbrev pub derived_outcome : (R : RuleSet) (E : Term) (memory next_term next_memory : List ℕ) → Derived R E memory → Written Moved
derived_outcome R E memory next_term next_memory d = record {
  answer = answered (record { action = d.action; size = size R.edition.width d.successor });
  term = overwritten (words R.edition.width d.successor) next_term;
  memory = overwritten (map word_of d.state) next_memory;
}

-- The same of the trace semantics, from a term and a list of visible actions.
abbrev pub HistoryOutcomes : RuleSet → Type 0
HistoryOutcomes R = List (Transition (Situation (Sem_T (attributes R))))

abbrev pub HistoryNumbering : (R : RuleSet) (E : Term) (T : Trace) → HistoryOutcomes R → Type 0
HistoryNumbering R E T l = Enumeration (Derivation (Sem_T (attributes R)) T E) Earlier concluded l

-- The history machine, fed numbers: `HistoryRun R E T ns F U os` if from the term E and the list T of visible actions (the last one first) it comes to F and U,
-- os being what each number did. A number of a derivation of the trace semantics takes it: a visible move puts its action at the front of the list, an
-- internal one nothing. Any other number is refused.
pub data HistoryRun (R : RuleSet) : Term → Trace → List ℕ → Term → Trace → List Outcome → Type 0 where
  ends : {E : Term} {T : Trace} → HistoryRun R E T [] E T []
  takes_visible : {E E' F : Term} {T U : Trace} {ns : List ℕ} {os : List Outcome} {a : VisibleAction} (l : HistoryOutcomes R) (n : HistoryNumbering R E T l)
      (s : Step (Sem_T (attributes R)) T E (visible a) E' (a ∷ T))
      → HistoryRun R E' (a ∷ T) ns F U os → HistoryRun R E T ((n.numbers.fun (derivation s)).0 ∷ ns) F U (took_visible ∷ os)
  takes_internal : {E E' F : Term} {T U : Trace} {ns : List ℕ} {os : List Outcome} (l : HistoryOutcomes R) (n : HistoryNumbering R E T l)
      (s : Step (Sem_T (attributes R)) T E internal E' T)
      → HistoryRun R E' T ns F U os → HistoryRun R E T ((n.numbers.fun (derivation s)).0 ∷ ns) F U (took_internal ∷ os)
  refuses : {E F : Term} {T U : Trace} {ns : List ℕ} {os : List Outcome} {k : ℕ} (l : HistoryOutcomes R)
      → HistoryNumbering R E T l → length l ≤ k → HistoryRun R E T ns F U os → HistoryRun R E T (k ∷ ns) F U (passed_over ∷ os)

-- How many of reader r's numbers had an outcome of a kind, where rs are the readers and os the outcomes of all numbers in order.
unfoldable pub counted_at : (Outcome → Bool) → ℕ → List ℕ → List Outcome → ℕ
counted_at kind r [] os = 0
counted_at kind r (x ∷ rs) [] = 0
counted_at kind r (x ∷ rs) (o ∷ os) = cond (eqb x r && kind o) 1 0 + counted_at kind r rs os

abbrev pub all_readers : List ℕ
all_readers = 1 ∷ 2 ∷ 3 ∷ 4 ∷ 5 ∷ 6 ∷ 7 ∷ 8 ∷ 9 ∷ 10 ∷ 11 ∷ 12 ∷ 13 ∷ 14 ∷ 15 ∷ 16 ∷ 17 ∷ 18 ∷ 19 ∷ 20 ∷ 21 ∷ 22 ∷ 23 ∷ 24 ∷ 25 ∷ 26 ∷ 27 ∷ 28 ∷ 29 ∷ 30 ∷ 31 ∷ 32 ∷ []

abbrev pub counts : List ℕ → List Outcome → List ℕ
counts rs os = concat_map (λ r. counted_at visible? r rs os ∷ counted_at internal? r rs os ∷ counted_at refused? r rs os ∷ []) all_readers

-- A number modulo 4,294,967,296 in four bytes, low byte first.
abbrev pub four_bytes : ℕ → List ℕ
four_bytes n = n % 256 ∷ n / 256 % 256 ∷ n / 65536 % 256 ∷ n / 16777216 % 256 ∷ []

-- The numbers at the table's front, four bytes each, with one count added to each; the bytes after them are as given.
unfoldable pub counted_up : List ℕ → List ℕ → List ℕ
counted_up [] table = table
counted_up (n ∷ ns) [] = []
counted_up (n ∷ ns) (a ∷ []) = a ∷ []
counted_up (n ∷ ns) (a ∷ b ∷ []) = a ∷ b ∷ []
counted_up (n ∷ ns) (a ∷ b ∷ c ∷ []) = a ∷ b ∷ c ∷ []
counted_up (n ∷ ns) (a ∷ b ∷ c ∷ d ∷ table) = four_bytes (a + 256 * b + 65536 * c + 16777216 * d + n) ++ counted_up ns table

-- What Run leaves where the history machine comes to F and U: F, zeros up to main's G, the values over U; the counts, in all and by reader.
abbrev pub run_outcome : RuleSet → Term → Trace → List Outcome → List ℕ → List ℕ → List ℕ → List ℕ → Tabled Ran
run_outcome R F U os rs table term memory = record {
  written = record {
    answer = answered (record { size = size R.edition.width F; visible = tally visible? os; internal = tally internal? os; refusals = tally refused? os });
    term = overwritten (words R.edition.width F ++ replicate (G R - size R.edition.width F) 0) term;
    memory = overwritten (values_over R U) memory;
  };
  table = counted_up (counts rs os) table;
}

-- ── the demands on each operation ──

pub record AdmitDemands (admit : List ℕ → Answer Sizes) : Type 0 where
  pub refuses : (rules : List ℕ) (k : ℕ) → Refuses rules k → admit rules ≡ refused k
  pub answers : (rules : List ℕ) (R : RuleSet) → Admits rules R
      → admit rules ≡ answered (record { cells = C R; reach = G R; breadth = W R; size = size R.edition.width (unfold_main R) })

pub record StartDemands (start : List ℕ → List ℕ → List ℕ → Written ℕ) (rules term memory : List ℕ) : Type 0 where
  pub refuses : (k : ℕ) → Refuses rules k → start rules term memory ≡ only_refused k term memory
  pub space : (R : RuleSet) → Admits rules R → (Room (G R) term × Room (C R) memory → ⊥) → start rules term memory ≡ only_refused 9 term memory
  pub answers : (R : RuleSet) → Admits rules R → Room (G R) term → Room (C R) memory → start rules term memory ≡ record {
    answer = answered (size R.edition.width (unfold_main R));
    term = overwritten (words R.edition.width (unfold_main R)) term;
    memory = overwritten (values_over R []) memory;
  }

pub record CountDemands (count : List ℕ → List ℕ → List ℕ → Answer ℕ) (rules term memory : List ℕ) : Type 0 where
  pub refuses : (k : ℕ) → Refuses rules k → count rules term memory ≡ refused k
  pub no_term : (R : RuleSet) → Admits rules R → ((E : Term) → GivenTerm R term E → ⊥) → count rules term memory ≡ refused 10
  pub space : (R : RuleSet) (E : Term) → Admits rules R → GivenTerm R term E → (Room (C R) memory → ⊥) → count rules term memory ≡ refused 9
  pub answers : (R : RuleSet) (E : Term) → Admits rules R → GivenTerm R term E → Room (C R) memory
      → (l : Outcomes R) → Numbering R E memory l → count rules term memory ≡ answered (length l)

pub record MoveDemands (move : List ℕ → List ℕ → List ℕ → ℕ → List ℕ → List ℕ → Written Moved) (rules term memory : List ℕ) (k : ℕ) (next_term next_memory : List ℕ) : Type 0 where
  pub refuses : (j : ℕ) → Refuses rules j → move rules term memory k next_term next_memory ≡ only_refused j next_term next_memory
  pub no_term : (R : RuleSet) → Admits rules R → ((E : Term) → GivenTerm R term E → ⊥) → move rules term memory k next_term next_memory ≡ only_refused 10 next_term next_memory
  pub space : (R : RuleSet) (E : Term) → Admits rules R → GivenTerm R term E → (MoveRoom R E memory next_term next_memory → ⊥)
      → move rules term memory k next_term next_memory ≡ only_refused 9 next_term next_memory
  -- Of every numbering: k is a derivation's number, or not below the count.
  pub not_offered : (R : RuleSet) (E : Term) → Admits rules R → GivenTerm R term E → MoveRoom R E memory next_term next_memory
      → (l : Outcomes R) → Numbering R E memory l → length l ≤ k → move rules term memory k next_term next_memory ≡ only_refused 12 next_term next_memory
  pub answers : (R : RuleSet) (E : Term) → Admits rules R → GivenTerm R term E → MoveRoom R E memory next_term next_memory
      → (l : Outcomes R) (n : Numbering R E memory l) (d : Derived R E memory) → (n.numbers.fun d).0 ≡ k
      → move rules term memory k next_term next_memory ≡ derived_outcome R E memory next_term next_memory d

pub record PresentDemands (present : List ℕ → List ℕ → List ℕ → List ℕ → List ℕ → List ℕ → Written Moved) (rules term memory event next_term next_memory : List ℕ) : Type 0 where
  pub refuses : (j : ℕ) → Refuses rules j → present rules term memory event next_term next_memory ≡ only_refused j next_term next_memory
  pub no_term : (R : RuleSet) → Admits rules R → ((E : Term) → GivenTerm R term E → ⊥) → present rules term memory event next_term next_memory ≡ only_refused 10 next_term next_memory
  pub no_event : (R : RuleSet) (E : Term) → Admits rules R → GivenTerm R term E → ((ρ : Action) → GivenEvent R event ρ → ⊥)
      → present rules term memory event next_term next_memory ≡ only_refused 11 next_term next_memory
  pub space : (R : RuleSet) (E : Term) (ρ : Action) → Admits rules R → GivenTerm R term E → GivenEvent R event ρ → (MoveRoom R E memory next_term next_memory → ⊥)
      → present rules term memory event next_term next_memory ≡ only_refused 9 next_term next_memory
  -- No derivation has the event; or the first that has it.
  pub not_offered : (R : RuleSet) (E : Term) (ρ : Action) → Admits rules R → GivenTerm R term E → GivenEvent R event ρ → MoveRoom R E memory next_term next_memory
      → ((d : Derived R E memory) → d.action ≡ ρ → ⊥) → present rules term memory event next_term next_memory ≡ only_refused 12 next_term next_memory
  pub answers : (R : RuleSet) (E : Term) (ρ : Action) → Admits rules R → GivenTerm R term E → GivenEvent R event ρ → MoveRoom R E memory next_term next_memory
      → (d : Derived R E memory) → d.action ≡ ρ → ((e : Derived R E memory) → Earlier e d → e.action ≡ ρ → ⊥)
      → present rules term memory event next_term next_memory ≡ derived_outcome R E memory next_term next_memory d

pub record RunDemands (run : List ℕ → List ℕ → List ℕ → List ℕ → List ℕ → List ℕ → List ℕ → Tabled Ran) (rules list table term memory spare_term spare_memory : List ℕ) : Type 0 where
  pub refuses : (k : ℕ) → Refuses rules k → run rules list table term memory spare_term spare_memory ≡ only_run_refused k table term memory
  pub space : (R : RuleSet) → Admits rules R → (RunRoom R term memory spare_term spare_memory → ⊥) → run rules list table term memory spare_term spare_memory ≡ only_run_refused 9 table term memory
  pub reader : (R : RuleSet) → Admits rules R → RunRoom R term memory spare_term spare_memory → ((ns rs : List ℕ) → LetThrough list table ns rs → ⊥)
      → run rules list table term memory spare_term spare_memory ≡ only_run_refused 13 table term memory
  pub answers : (R : RuleSet) → Admits rules R → RunRoom R term memory spare_term spare_memory → (ns rs : List ℕ) → LetThrough list table ns rs
      → (F : Term) (U : Trace) (os : List Outcome) → HistoryRun R (unfold_main R) [] ns F U os
      → run rules list table term memory spare_term spare_memory ≡ run_outcome R F U os rs table term memory

-- Run's scratch buffers afterwards: a refusal leaves them as given; else their words may be anything, and an odd last byte is as given.
pub record ScratchDemands (after : Answer Ran → List ℕ → List ℕ → Type 0) : Type 0 where
  pub refused_kept : (k : ℕ) (spare spare' : List ℕ) → after (refused k) spare spare' ↔ (spare' ≡ spare)
  pub odd_byte_kept : (x : Ran) (spare spare' : List ℕ)
      → after (answered x) spare spare' ↔ ((length spare' ≡ length spare) × (drop (2 * (length spare / 2)) spare' ≡ drop (2 * (length spare / 2)) spare))

-- Six operations.
pub record Operations : Type 0 where
  pub admit : List ℕ → Answer Sizes
  pub start : List ℕ → List ℕ → List ℕ → Written ℕ
  pub count : List ℕ → List ℕ → List ℕ → Answer ℕ
  pub move : List ℕ → List ℕ → List ℕ → ℕ → List ℕ → List ℕ → Written Moved
  pub present : List ℕ → List ℕ → List ℕ → List ℕ → List ℕ → List ℕ → Written Moved
  pub run : List ℕ → List ℕ → List ℕ → List ℕ → List ℕ → List ℕ → List ℕ → Tabled Ran

-- They do what is demanded, on all inputs.
pub record Demanded (o : Operations) : Type 0 where
  pub admits : AdmitDemands o.admit
  pub starts : (rules term memory : List ℕ) → StartDemands o.start rules term memory
  pub counts : (rules term memory : List ℕ) → CountDemands o.count rules term memory
  pub moves : (rules term memory : List ℕ) (k : ℕ) (next_term next_memory : List ℕ) → MoveDemands o.move rules term memory k next_term next_memory
  pub presents : (rules term memory event next_term next_memory : List ℕ) → PresentDemands o.present rules term memory event next_term next_memory
  pub runs : (rules list table term memory spare_term spare_memory : List ℕ) → RunDemands o.run rules list table term memory spare_term spare_memory

-- The same results for all arguments.
pub record Same (o p : Operations) : Type 0 where
  pub admit : (rules : List ℕ) → o.admit rules ≡ p.admit rules
  pub start : (rules term memory : List ℕ) → o.start rules term memory ≡ p.start rules term memory
  pub count : (rules term memory : List ℕ) → o.count rules term memory ≡ p.count rules term memory
  pub move : (rules term memory : List ℕ) (k : ℕ) (next_term next_memory : List ℕ) → o.move rules term memory k next_term next_memory ≡ p.move rules term memory k next_term next_memory
  pub present : (rules term memory event next_term next_memory : List ℕ) → o.present rules term memory event next_term next_memory ≡ p.present rules term memory event next_term next_memory
  pub run : (rules list table term memory spare_term spare_memory : List ℕ) → o.run rules list table term memory spare_term spare_memory ≡ p.run rules list table term memory spare_term spare_memory
