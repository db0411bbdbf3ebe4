-- An action that is hidden is passed over; any other is one move.
use native.Mathlib.Omega.{arith}
use Rattle.derivation.proofs.Arms.{action_hidden, action_shown}
use Rattle.derivation.proofs.arrays.Arrays.derive_action.Goals as goal

pub returns-then-in_set-clause-derived : goal.returns-then-in_set-clause-derived
returns-then-in_set-clause-derived c = action_hidden _ _ _ _ _ _ _ c.code_at.ensures c.behind_action.ensures _ _ c.in_set.ensures (omega arith) c.if-in_set.true c.passing.ensures.passed

pub returns-clause-derived : goal.returns-clause-derived
returns-clause-derived c = action_shown _ _ _ _ _ _ _ c.code_at.ensures c.behind_action-2.ensures _ _ c.in_set.ensures (omega arith) c.if-in_set.false c.single.ensures.one.0 c.single.ensures.one.1
