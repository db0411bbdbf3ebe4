-- Request K10 (document 02): the past is in the cells, so the log may go. Two histories of one rule set, of any lengths, that end with equal terms and
-- equal values of all functions have one future. Proved in Laws/PastInCells, executed in Executed.
use Rattle.std.specs.Prelude.{◌≡◌, List, ◌++◌, ℕ, ◌+◌, ◌*◌, ◌%◌, ◌≤◌, ◌<◌, T, take}
use Rattle.eb3.specs.Generic.Lists.{Within}
use Rattle.eb3.specs.Attributes.{Attributes, number_of_functions, domain, attribute_value}
use Rattle.eb3.specs.TransitionSystems.{outcomes}
use Rattle.eb3.specs.Semantics.{Sem_T, Situation, system}
use Rattle.eb3.specs.Machines.{Machine, Chain, history_start}
use Rattle.eb3.specs.RuleSets.{RuleSet, attributes}
use Rattle.eb3.specs.Unfolding.{unfold_main}
use Rattle.eb3.specs.Bytes.{words_in, word_count}
use Rattle.eb3.specs.Limits
use Rattle.eb3.specs.Readers.{numbers_in, all_read, record_count, record_number}
use Rattle.eb3.specs.Answers.{answered, Sizes, Ran, Tabled}
use Rattle.eb3.specs.Admission.{admission}
use Rattle.eb3.specs.Operations.{admit, count, move, run}
use Rattle.eb3.specs.Demands.{Roomy, history_moves, cut}

-- Equal terms, and equal values of all functions at every element: all that is asked of two histories, and what they keep.
pub record SameEnd (A : Attributes) (s s' : Situation (Sem_T A)) : Type 0 where
  pub same_term : s.term ≡ s'.term
  pub same_values : (f : ℕ) → f < number_of_functions A → (xs : List ℕ) → Within (domain A f) xs → attribute_value A s.state f xs ≡ attribute_value A s'.state f xs

-- The history machine, fed the rule set and the numbers ks, ends with h.
abbrev pub EndsWith : (R : RuleSet) → List ℕ → Machine (Sem_T (attributes R)) → Type 0
EndsWith R ks h = Chain (Sem_T (attributes R)) (history_start (attributes R) (unfold_main R)) ks h

-- ── the machines ──

-- The machine after ks and after ks', both fed some numbers more: equal terms and values, and the same moves, one for one, each with its action and
-- its successor.
pub record SameAfter (R : RuleSet) (ks ks' more : List ℕ) : Type 0 where
  pub g : Machine (Sem_T (attributes R))
  pub g' : Machine (Sem_T (attributes R))
  pub goes_on : EndsWith R (ks ++ more) g
  pub goes_on' : EndsWith R (ks' ++ more) g'
  pub same_end : SameEnd (attributes R) g.state g'.state
  pub same_moves : history_moves R g ≡ history_moves R g'

-- A further list: so after each of its numbers, and each number takes a visible move in both, takes an internal one in both, or is refused by both.
pub record SameFuture (R : RuleSet) (ks ks' : List ℕ) (h h' : Machine (Sem_T (attributes R))) (further : List ℕ) : Type 0 where
  pub at_each_step : (n : ℕ) → SameAfter R ks ks' (take n further)
  pub same_outcomes : outcomes (system (Sem_T (attributes R))) h.state further ≡ outcomes (system (Sem_T (attributes R))) h'.state further

-- ── the bytes ──

-- A list in bytes and a further one after it. An odd last byte of the first is no number, and is left out: it would make a word with the byte after it.
abbrev pub followed_by : List ℕ → List ℕ → List ℕ
followed_by list further = take (2 * word_count list) list ++ further

-- What a host lends to Run: buffers of the reported sizes and a table of 32 records (request K1), holding anything.
pub record Lent (S : Sizes) : Type 0 where
  pub table : List ℕ
  pub term : List ℕ
  pub memory : List ℕ
  pub spare_term : List ℕ
  pub spare_memory : List ℕ
  pub records : Limits.readers ≤ record_count table
  pub room : Roomy S term memory
  pub spare_room : Roomy S spare_term spare_memory

abbrev pub run_in : {S : Sizes} → List ℕ → Lent S → List ℕ → Tabled Ran
run_in rules b list = run rules list b.table b.term b.memory b.spare_term b.spare_memory

-- Count and Move on what two runs left, each term cut to its size: the same answers, also where one is a refusal, and the same bytes written.
pub record SameOffers (rules : List ℕ) (term memory term' memory' : List ℕ) : Type 0 where
  pub same_count : count rules term memory ≡ count rules term' memory'
  pub same_move : (k : ℕ) (next_term next_memory : List ℕ) → move rules term memory k next_term next_memory ≡ move rules term' memory' k next_term next_memory

-- The runs w and w' of two first lists, and v and v' of the same lists with a further one after each: v and v' leave the same term and the same memory in
-- the parts that are written, answer the same size, and the further list has added as much to each count of one as of the other, and to each number of
-- each reader's record.
pub record SameRuns (rules : List ℕ) (S : Sizes) (w v w' v' : Tabled Ran) : Type 0 where
  pub first : Ran
  pub first' : Ran
  pub whole : Ran
  pub whole' : Ran
  pub first_answers : w.written.answer ≡ answered first
  pub first_answers' : w'.written.answer ≡ answered first'
  pub whole_answers : v.written.answer ≡ answered whole
  pub whole_answers' : v'.written.answer ≡ answered whole'
  pub same_term : cut S.reach v.written.term ≡ cut S.reach v'.written.term
  pub same_memory : take (2 * S.cells) v.written.memory ≡ take (2 * S.cells) v'.written.memory
  pub same_size : whole.size ≡ whole'.size
  pub visible_added : whole.visible + first'.visible ≡ whole'.visible + first.visible
  pub internal_added : whole.internal + first'.internal ≡ whole'.internal + first.internal
  pub refusals_added : whole.refusals + first'.refusals ≡ whole'.refusals + first.refusals
  pub records_added : (r j : ℕ) → 1 ≤ r → r ≤ Limits.readers → j < 3
      → (record_number v.table r j + record_number w'.table r j) % 4294967296 ≡ (record_number v'.table r j + record_number w.table r j) % 4294967296
  pub same_offers : SameOffers rules (cut whole.size v.written.term) v.written.memory (cut whole'.size v'.written.term) v'.written.memory

-- ── the request ──

-- Two first lists of numbers, each with its reader, and where the machine ends after each. A list that 13 refuses gets no answer to compare.
pub record PastInCells (rules list list' : List ℕ) (S : Sizes) (R : RuleSet) (h h' : Machine (Sem_T (attributes R))) : Type 0 where
  pub same_future : (further : List ℕ) → SameFuture R (numbers_in list) (numbers_in list') h h' further
  pub same_runs : (further : List ℕ) → T (all_read (words_in further)) → (b b' : Lent S)
      → SameRuns rules S (run_in rules b list) (run_in rules b (followed_by list further)) (run_in rules b' list') (run_in rules b' (followed_by list' further))

-- Of every rule set that is admitted, and any two lists whose histories have the same end.
abbrev pub K10Holds : Type 0
K10Holds = (rules list list' : List ℕ) (S : Sizes) (R : RuleSet) (h h' : Machine (Sem_T (attributes R)))
    → admit rules ≡ answered S → admission rules ≡ answered R → T (all_read (words_in list)) → T (all_read (words_in list')) → EndsWith R (numbers_in list) h → EndsWith R (numbers_in list') h'
    → SameEnd (attributes R) h.state h'.state → PastInCells rules list list' S R h h'

-- The same where a host sees bytes only: two runs left the same words, each term cut to the size answered, and the same cells. So what a host keeps of them
-- replaces the log.
abbrev pub K10OnBytesHolds : Type 0
K10OnBytesHolds = (rules list list' : List ℕ) (S : Sizes) (a a' : Lent S) (r r' : Ran) → admit rules ≡ answered S
    → (run_in rules a list).written.answer ≡ answered r → (run_in rules a' list').written.answer ≡ answered r'
    → cut r.size (run_in rules a list).written.term ≡ cut r'.size (run_in rules a' list').written.term
    → take (2 * S.cells) (run_in rules a list).written.memory ≡ take (2 * S.cells) (run_in rules a' list').written.memory
    → (further : List ℕ) → T (all_read (words_in further)) → (b b' : Lent S)
    → SameRuns rules S (run_in rules b list) (run_in rules b (followed_by list further)) (run_in rules b' list') (run_in rules b' (followed_by list' further))
