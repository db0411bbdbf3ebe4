use Rattle.given.specs.Laws.Handing.{handed_some, handed_none}
use Rattle.engine.proofs.StepCases.{step_made, step_refused}
use Rattle.engine.proofs.stepping.step_from.Goals as goal

pub returns-in_err-taken-clause-done : goal.returns-in_err-taken-clause-done
returns-in_err-taken-clause-done c =
    let h = handed_none _ c.ok_or.ensures.value c.in_err-taken.was _ c.from_residual.ensures in
    rw h.1 (step_refused c.args.rules.now _ _ _ _ _ _ _ c.take_move.ensures h.0)

pub returns-clause-done : goal.returns-clause-done
returns-clause-done c = step_made c.args.rules.now _ _ _ _ _ _ _ _ _ _ _ _ c.take_move.ensures (handed_some _ c.ok_or.ensures.value c.in_ok-taken.was) c.renew.ensures.0 c.renew.ensures.1 c.save.ensures c.tell.ensures
