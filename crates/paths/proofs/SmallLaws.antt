-- Small actions, those of rule sets of edition 1. Each action that a move of a term performs is one of the term's, so that the actions of a term with small
-- actions are small as long as it runs.
-- Document 01, "Moves, in order".
use Rattle.std.specs.Prelude.{◌≡◌, Bool, ℕ}
use Rattle.std.proofs.Math.Option.{some}
use Rattle.std.proofs.Math.ListN.{get_elem?}
use Rattle.eb3.specs.Expressions.{Cond}
use Rattle.eb3.specs.Terms.{Term, Done, Internal, Perform, Sequence, Choice, Star, Parallel, Guard, Action, visible}
use Rattle.eb3.specs.Moves.{Move, moves}
use Rattle.eb3.specs.Derivations.{DataState, Step, S_1, S_1', S_2, S_3, S_4_left, S_4_right, S_5, S_6, S_7, S_8, S_9_left, S_9_right, S_10}
use Rattle.eb3.proofs.Laws.Semantics.{move_stepped}
use Rattle.actions.specs.Codes.{Small}

abbrev pub SmallActions : Term → Type 0
SmallActions Done = Unit
SmallActions Internal = Unit
SmallActions (Perform a) = Small (visible a)
SmallActions (Sequence E F) = SmallActions E × SmallActions F
SmallActions (Choice E F) = SmallActions E × SmallActions F
SmallActions (Star E) = SmallActions E
SmallActions (Parallel Δ E F) = SmallActions E × SmallActions F
SmallActions (Guard C E) = SmallActions E

-- ── steps keep them ──

pub step_small : {S : DataState} {M M' : S.State} {E E' : Term} {ρ : Action} → Step S M E ρ E' M' → SmallActions E → SmallActions E'
step_small S_1 w = tt
step_small S_1' w = tt
step_small (S_2 d) w = (step_small d w.0, w.1)
step_small (S_3 d) w = step_small d w.1
step_small (S_4_left d) w = step_small d w.0
step_small (S_4_right d) w = step_small d w.1
step_small S_5 w = tt
step_small (S_6 d) w = (step_small d w, w)
step_small S_7 w = tt
step_small (S_8 h d e) w = (step_small d w.0, step_small e w.1)
step_small (S_9_left h d) w = (step_small d w.0, w.1)
step_small (S_9_right h d) w = (w.0, step_small d w.1)
step_small (S_10 h d) w = step_small d w

pub step_action_small : {S : DataState} {M M' : S.State} {E E' : Term} {ρ : Action} → Step S M E ρ E' M' → SmallActions E → Small ρ
step_action_small S_1 w = w
step_action_small S_1' w = tt
step_action_small (S_2 d) w = step_action_small d w.0
step_action_small (S_3 d) w = step_action_small d w.1
step_action_small (S_4_left d) w = step_action_small d w.0
step_action_small (S_4_right d) w = step_action_small d w.1
step_action_small S_5 w = tt
step_action_small (S_6 d) w = step_action_small d w
step_action_small S_7 w = tt
step_action_small (S_8 h d e) w = step_action_small d w.0
step_action_small (S_9_left h d) w = step_action_small d w.0
step_action_small (S_9_right h d) w = step_action_small d w.1
step_action_small (S_10 h d) w = step_action_small d w

-- Of every entry of the list of moves.
pub move_small : (g : Cond → Bool) (E : Term) (k : ℕ) (x : Move) → get_elem? (moves g E) k ≡ some x → SmallActions E → SmallActions x.successor
move_small g E k x e w = step_small (move_stepped g E k x e) w

pub move_action_small : (g : Cond → Bool) (E : Term) (k : ℕ) (x : Move) → get_elem? (moves g E) k ≡ some x → SmallActions E → Small x.action
move_action_small g E k x e w = step_action_small (move_stepped g E k x e) w
