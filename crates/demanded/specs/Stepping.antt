-- A host that steps: Start, then Moves, in two pairs of buffers by turns (document 01, "Operations"); its steps are the run by the numbers of a list that
-- 13 lets through (document 02, K1), and in buffers of the reported sizes neither 9 nor 10 ever stops it. Proved in Laws/Stepping.
use Rattle.std.specs.Prelude.{◌≡◌, List, [], ◌∷◌, ◌++◌, ℕ, suc, ◌*◌, ◌≤◌, T, eqb, take}
use Rattle.eb3.specs.Refusal
use Rattle.eb3.specs.Terms.{Term, Action, internal, visible}
use Rattle.eb3.specs.Sizes.{size, reach, breadth}
use Rattle.eb3.specs.RuleSets.{RuleSet}
use Rattle.eb3.specs.Reading.{pick}
use Rattle.eb3.specs.Bytes.{words_in}
use Rattle.eb3.specs.Readers.{numbers_in, reader?, lets_through}
use Rattle.eb3.specs.Answers.{Answer, refused, answered, and_then, Sizes, Moved, Ran, Written}
use Rattle.eb3.specs.Admission.{admission}
use Rattle.eb3.specs.Operations.{term_in, admit, start, count, move, run}
use Rattle.eb3.specs.Demands.{Roomy, cut}

-- What the host holds: the current term and memory, the term's size as it was reported, the pair of buffers to be written next, and its counts.
pub record Host : Type 0 where
  pub term : List ℕ
  pub memory : List ℕ
  pub size : ℕ
  pub other_term : List ℕ
  pub other_memory : List ℕ
  pub visible_count : ℕ
  pub internal_count : ℕ
  pub refused_count : ℕ

-- Start fills the first pair.
abbrev pub host_after_start : List ℕ → List ℕ → Written ℕ → Answer Host
host_after_start other_term other_memory w = and_then w.answer λ n. answered (record {
  term = w.term;
  memory = w.memory;
  size = n;
  other_term = other_term;
  other_memory = other_memory;
  visible_count = 0;
  internal_count = 0;
  refused_count = 0;
})

unfoldable pub host_start : List ℕ → List ℕ → List ℕ → List ℕ → List ℕ → Answer Host
host_start rules term memory other_term other_memory = host_after_start other_term other_memory (start rules term memory)

-- A move taken: the pair that was written is the current one, the other is to be written next; one more of what was done.
abbrev pub more_visible : Action → ℕ → ℕ
more_visible internal n = n
more_visible (visible a) n = suc n

abbrev pub more_internal : Action → ℕ → ℕ
more_internal internal n = suc n
more_internal (visible a) n = n

abbrev pub taken : Host → Written Moved → Moved → Host
taken g w m = record {
  term = w.term;
  memory = w.memory;
  size = m.size;
  other_term = g.term;
  other_memory = g.memory;
  visible_count = more_visible m.action g.visible_count;
  internal_count = more_internal m.action g.internal_count;
  refused_count = g.refused_count;
}

-- A number refused 12 changes nothing but the count.
abbrev pub not_taken : Host → Host
not_taken g = record {
  term = g.term;
  memory = g.memory;
  size = g.size;
  other_term = g.other_term;
  other_memory = g.other_memory;
  visible_count = g.visible_count;
  internal_count = g.internal_count;
  refused_count = suc g.refused_count;
}

-- Any other refusal stops the host.
abbrev pub stepped : Host → Written Moved → Answer Moved → Answer Host
stepped g w (refused k) = pick (eqb k Refusal.not_offered) (answered (not_taken g)) (refused k)
stepped g w (answered m) = answered (taken g w m)

-- Move with the current term, cut to its size, and the current memory, into the other pair.
abbrev pub host_move : List ℕ → Host → ℕ → Written Moved
host_move rules g k = move rules (cut g.size g.term) g.memory k g.other_term g.other_memory

unfoldable pub host_step : List ℕ → Host → ℕ → Answer Host
host_step rules g k = stepped g (host_move rules g k) (host_move rules g k).answer

unfoldable pub host_run : List ℕ → Host → List ℕ → Answer Host
host_run rules g [] = answered g
host_run rules g (k ∷ ks) = and_then (host_step rules g k) λ g'. host_run rules g' ks

-- The host holds what a run left: its size and counts, the words of its term, its cells.
pub record SameAsRun (S : Sizes) (g : Host) (r : Written Ran) : Type 0 where
  pub same_answer : r.answer ≡ answered (record { size = g.size; visible = g.visible_count; internal = g.internal_count; refusals = g.refused_count })
  pub same_term : cut g.size g.term ≡ cut g.size r.term
  pub same_cells : take (2 * S.cells) g.memory ≡ take (2 * S.cells) r.memory

-- Both pairs have the reported sizes.
pub record RoomyHost (S : Sizes) (g : Host) : Type 0 where
  pub current : Roomy S g.term g.memory
  pub other : Roomy S g.other_term g.other_memory

-- Run of a list with one number more, at any reader, is Run of the list, then Move with that number.
pub record OneMore (rules table term memory spare_term spare_memory : List ℕ) (S : Sizes) : Type 0 where
  pub one_more : (list list' : List ℕ) (k r : ℕ) → T (lets_through list table) → T (reader? r) → words_in list' ≡ words_in list ++ (k ∷ r ∷ []) → (g : Host) → RoomyHost S g
      → SameAsRun S g (run rules list table term memory spare_term spare_memory).written
      → (g' : Host) × (host_step rules g k ≡ answered g') × RoomyHost S g' × SameAsRun S g' (run rules list' table term memory spare_term spare_memory).written

-- In particular of the very buffers that Run left: on its last term, cut to its size, and its last memory.
abbrev pub host_of : Written Ran → Ran → List ℕ → List ℕ → Host
host_of w r next_term next_memory = record {
  term = w.term;
  memory = w.memory;
  size = r.size;
  other_term = next_term;
  other_memory = next_memory;
  visible_count = r.visible;
  internal_count = r.internal;
  refused_count = r.refusals;
}

pub record RunThenMove (rules list list' table term memory spare_term spare_memory next_term next_memory : List ℕ) (k : ℕ) (S : Sizes) : Type 0 where
  pub ran : Ran
  pub ran_is : (run rules list table term memory spare_term spare_memory).written.answer ≡ answered ran
  pub host : Host
  pub moved_to : host_step rules (host_of (run rules list table term memory spare_term spare_memory).written ran next_term next_memory) k ≡ answered host
  pub same_as_run : SameAsRun S host (run rules list' table term memory spare_term spare_memory).written

-- Start followed by Moves ends with what Run leaves; on the way neither 9 nor 10 occurs, and from there no Move is refused but by 12.
pub record StepsAreTheRun (rules list table term memory spare_term spare_memory : List ℕ) (first_term first_memory second_term second_memory : List ℕ) (S : Sizes) : Type 0 where
  pub host : Host
  pub stepped_to : and_then (host_start rules first_term first_memory second_term second_memory) (λ g. host_run rules g (numbers_in list)) ≡ answered host
  pub same_as_run : SameAsRun S host (run rules list table term memory spare_term spare_memory).written
  pub room_kept : RoomyHost S host
  pub count_answers : (n : ℕ) × (count rules (cut host.size host.term) host.memory ≡ answered n)
  pub only_12 : (k j : ℕ) → (host_move rules host k).answer ≡ refused j → j ≡ Refusal.not_offered

-- Every successor of an accepted term is accepted again, cut to its reported size, and asks no more room and breadth than the term did.
pub record AcceptedAgain (rules term memory next_term next_memory : List ℕ) (k : ℕ) (R : RuleSet) (E : Term) (m : Moved) : Type 0 where
  pub successor : Term
  pub accepted : term_in R (cut m.size (move rules term memory k next_term next_memory).term) ≡ answered successor
  pub size_reported : m.size ≡ size R.edition.width successor
  pub reach_kept : reach R.edition.width successor ≤ reach R.edition.width E
  pub breadth_kept : breadth successor ≤ breadth E

-- ── what is proved, with all that it asks ──

abbrev pub OneMoreHolds : Type 0
OneMoreHolds = (rules table term memory spare_term spare_memory : List ℕ) (S : Sizes) → admit rules ≡ answered S → Roomy S term memory → Roomy S spare_term spare_memory
    → OneMore rules table term memory spare_term spare_memory S

abbrev pub RunThenMoveHolds : Type 0
RunThenMoveHolds = (rules list list' table term memory spare_term spare_memory next_term next_memory : List ℕ) (k r : ℕ) (S : Sizes) → admit rules ≡ answered S
    → T (lets_through list table) → T (reader? r) → words_in list' ≡ words_in list ++ (k ∷ r ∷ []) → Roomy S term memory → Roomy S spare_term spare_memory → Roomy S next_term next_memory
    → RunThenMove rules list list' table term memory spare_term spare_memory next_term next_memory k S

abbrev pub StepsAreTheRunHolds : Type 0
StepsAreTheRunHolds = (rules list table term memory spare_term spare_memory first_term first_memory second_term second_memory : List ℕ) (S : Sizes) → admit rules ≡ answered S
    → T (lets_through list table) → Roomy S term memory → Roomy S spare_term spare_memory → Roomy S first_term first_memory → Roomy S second_term second_memory
    → StepsAreTheRun rules list table term memory spare_term spare_memory first_term first_memory second_term second_memory S

abbrev pub AcceptedAgainHolds : Type 0
AcceptedAgainHolds = (rules term memory next_term next_memory : List ℕ) (k : ℕ) (R : RuleSet) (E : Term) (m : Moved)
    → admission rules ≡ answered R → term_in R term ≡ answered E → (move rules term memory k next_term next_memory).answer ≡ answered m
    → AcceptedAgain rules term memory next_term next_memory k R E m
