-- The sources' semantics as transition systems: Sem_T over traces (source 000, figure 4), Sem_M over cells (figure 6).
use mathlib.Core.List.{List, ◌∷◌, map, is_set}
use Rattle.eb3.specs.Values.{Value, Value_set}
use Rattle.eb3.specs.Terms.{VisibleAction_set, Term}
use Rattle.eb3.specs.Moves.{Move, moves}
use Rattle.eb3.specs.Derivations.{DataState, Derivation, state_after}
use Rattle.eb3.specs.Attributes.{Attributes, Trace, guard_holds, value_at}
use Rattle.eb3.specs.Cells.{cell_at, renew}
use Rattle.eb3.specs.TransitionSystems.{Transition, TransitionSystem}

-- Sem_T: a visible action is appended to the trace; guards read values over it.
abbrev pub Sem_T : Attributes → DataState
Sem_T A = record {
  State = Trace;
  State_set = is_set VisibleAction_set;
  update = λ H a. a ∷ H;
  satisfies = λ H. guard_holds A (value_at A H);
}

-- Sem_M: a visible action renews the cells; guards read them.
abbrev pub Sem_M : Attributes → DataState
Sem_M A = record {
  State = List Value;
  State_set = is_set Value_set;
  update = renew A;
  satisfies = λ M. guard_holds A (cell_at A M);
}

-- The sources' states (E, M) and (E, T).
pub record Situation (S : DataState) : Type 0 where
  pub term : Term
  pub state : S.State

abbrev pub situation : {S : DataState} → Term → S.State → Situation S
situation E M = record { term = E; state = M }

-- What a move leads to.
abbrev pub transition : (S : DataState) → S.State → Move → Transition (Situation S)
transition S M x = record { action = x.action; target = situation x.successor (state_after S M x.action) }

abbrev pub system : DataState → TransitionSystem
system S = record { State = Situation S; transitions = λ s. map (transition S s.state) (moves (S.satisfies s.state) s.term) }

-- What a derivation concludes.
abbrev pub concluded : {S : DataState} {M : S.State} {E : Term} → Derivation S M E → Transition (Situation S)
concluded d = record { action = d.action; target = situation d.successor d.state }
