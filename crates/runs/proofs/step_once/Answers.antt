-- A case for each return: no such move, a visible one, or an internal one.
use Rattle.runs.proofs.StepCases.{step_internal, step_visible, step_refused}
use Rattle.runs.proofs.step_once.Goals as goal

pub returns-in_err-taken-clause-stepped : goal.returns-in_err-taken-clause-stepped
returns-in_err-taken-clause-stepped c = step_refused c.args.functions.now c.args.held c.args.scratch.now c.in_err-taken.ensures.moved c.from_residual.ensures

pub returns-then-taken-gt0-clause-stepped : goal.returns-then-taken-gt0-clause-stepped
returns-then-taken-gt0-clause-stepped c = step_visible c.args.functions.now c.args.held c.args.scratch.now c.in_ok-taken.ensures.moved c.renew.ensures.1 c.if-taken-gt0.true

pub returns-clause-stepped : goal.returns-clause-stepped
returns-clause-stepped c = step_internal c.args.functions.now c.args.held c.args.scratch.now c.in_ok-taken.ensures.moved c.renew.ensures.1 c.if-taken-gt0.false
