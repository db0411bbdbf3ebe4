-- The history machine, the memory machine, and how they agree on terms and cells (document 01, "Memory and the history machine", "Operations").
use Rattle.std.specs.Prelude.{◌≡◌, List, [], ◌∷◌, map, ℕ, ◌+◌, ◌≤◌, length}
use Rattle.eb3.specs.Terms.{Term}
use Rattle.eb3.specs.Moves.{moves}
use Rattle.eb3.specs.Generic.Positions.{Enumeration}
use Rattle.eb3.specs.Derivations.{DataState, Derivation, Earlier}
use Rattle.eb3.specs.Attributes.{Attributes}
use Rattle.eb3.specs.Cells.{initial_cells, all_values}
use Rattle.eb3.specs.TransitionSystems.{refused, taken, Configuration, initial, count, run, outcomes, on_target, Outcome}
use Rattle.eb3.specs.Semantics.{concluded, Sem_T, Sem_M, Situation, situation, system}

-- A machine that is given numbers, defined by derivations and without a loop: a number below the count of moves takes the derivation of that number,
-- any other is refused.
abbrev pub Machine : DataState → Type 0
Machine S = Configuration (system S)

-- Derivations are numbered by their places in the list of moves: by a one-to-one correspondence, in order, of the derivations with the
-- transitions. (There is one, Laws/Semantics, and every one gives the same numbers, Laws/Numbering, so it matters not which.)
abbrev pub Numbered : (S : DataState) → Situation S → Type 0
Numbered S s = Enumeration (Derivation S s.state s.term) Earlier concluded ((system S).transitions s)

abbrev pub count_of_moves : {S : DataState} → Situation S → ℕ
count_of_moves {S} s = length (moves (S.satisfies s.state) s.term)

pub data Chain (S : DataState) : Machine S → List ℕ → Machine S → Type 0 where
  ends : {c : Machine S} → Chain S c [] c
  takes : {c c' : Machine S} {ks : List ℕ} (n : Numbered S c.state) (d : Derivation S c.state.state c.state.term)
      → Chain S (count (system S) c (taken d.action) (situation d.successor d.state)) ks c' → Chain S c ((n.numbers.fun d).0 ∷ ks) c'
  refuses : {c c' : Machine S} {k : ℕ} {ks : List ℕ} → count_of_moves c.state ≤ k
      → Chain S (count (system S) c refused c.state) ks c' → Chain S c (k ∷ ks) c'

-- The history machine holds a term, the list T and three counts, at first main's unfolding E, the empty list and zeros. It holds no cells.
abbrev pub history_start : (A : Attributes) → Term → Machine (Sem_T A)
history_start A E = initial (system (Sem_T A)) (situation E [])

unfoldable pub history_run : (A : Attributes) → Term → List ℕ → Machine (Sem_T A)
history_run A E ks = run (system (Sem_T A)) (history_start A E) ks

-- What each number did, in order.
unfoldable pub history_outcomes : (A : Attributes) → Term → List ℕ → List Outcome
history_outcomes A E ks = outcomes (system (Sem_T A)) (situation E []) ks

-- The memory machine holds cells in the list's place; this is what Run computes.
abbrev pub memory_start : (A : Attributes) → Term → Machine (Sem_M A)
memory_start A E = initial (system (Sem_M A)) (situation E (initial_cells A))

unfoldable pub memory_run : (A : Attributes) → Term → List ℕ → Machine (Sem_M A)
memory_run A E ks = run (system (Sem_M A)) (memory_start A E) ks

-- A history's cells.
abbrev pub cells_of : (A : Attributes) → Situation (Sem_T A) → Situation (Sem_M A)
cells_of A s = situation s.term (all_values A s.state)

-- Agreement over one whole list of numbers: m is what the memory machine ends with, h what the history machine does.
pub record Agreement (A : Attributes) (E : Term) (ks : List ℕ) (m : Machine (Sem_M A)) (h : Machine (Sem_T A)) : Type 0 where
  pub history : Chain (Sem_T A) (history_start A E) ks h
  pub same_term : m.state.term ≡ h.state.term
  pub cells_are_values : m.state.state ≡ all_values A h.state.state
  pub same_visible : m.visible_count ≡ h.visible_count
  pub same_internal : m.internal_count ≡ h.internal_count
  pub same_refused : m.refused_count ≡ h.refused_count
  pub all_counted : length ks ≡ h.visible_count + h.internal_count + h.refused_count
  pub visible_in_trace : h.visible_count ≡ length h.state.state
  -- The moves then listed: as many, and move k has the history machine's action and successor, the new memory holding the values over
  -- the list that this move leaves.
  pub same_moves : moves ((Sem_M A).satisfies m.state.state) m.state.term ≡ moves ((Sem_T A).satisfies h.state.state) h.state.term
  pub same_transitions : (system (Sem_M A)).transitions m.state ≡ map (on_target (cells_of A)) ((system (Sem_T A)).transitions h.state)
  -- Number by number, the same was taken or refused on the way.
  pub same_outcomes : outcomes (system (Sem_M A)) (memory_start A E).state ks ≡ outcomes (system (Sem_T A)) (history_start A E).state ks
