use native.Mathlib.Omega.{arith}
use Rattle.words.specs.Laws.Checking.{last_len}
use Rattle.words.specs.Laws.Reading.{handed_err}
use Rattle.rules.proofs.ProcessCases.{going_start, going_refused, going_front, going_next}
use Rattle.rules.proofs.processes.Goals as goal

pub loop-p-init : goal.loop-p-init
loop-p-init c = going_start _ _ _ _ c.requires.0 c.requires.3 c.requires.4

pub returns-in_err-main : goal.returns-in_err-main
returns-in_err-main c =
    rw (handed_err _ _ c.from_residual.ensures) (going_refused _ _ _ _ _ _ _ _ c.loop-p.invariant c.loop-p-test.true _ c.check_process.ensures c.last-u.ensures c.limit_of.ensures.0 c.limit_of.ensures.1 _ c.in_err-main.was)

pub overflow_sub-left : goal.overflow_sub-left
overflow_sub-left c =
    let h = going_front _ _ _ _ _ _ _ _ c.loop-p.invariant c.loop-p-test.true _ c.check_process.ensures c.last-u.ensures c.limit_of.ensures.0 c.limit_of.ensures.1 _ c.in_ok-main.was in
    omega (arith, h.1, c.first.ensures.0)

pub enter_process-requires : goal.enter_process-requires
enter_process-requires c =
    let h = going_front _ _ _ _ _ _ _ _ c.loop-p.invariant c.loop-p-test.true _ c.check_process.ensures c.last-u.ensures c.limit_of.ensures.0 c.limit_of.ensures.1 _ c.in_ok-main.was in
    (omega arith, h.0, h.1, omega (arith, last_len _ _ _ c.last-u.ensures))

pub loop-p-preserved : goal.loop-p-preserved
loop-p-preserved c =
    going_next _ _ _ _ _ _ _ _ c.loop-p.invariant c.loop-p-test.true _ c.check_process.ensures c.last-u.ensures c.limit_of.ensures.0 c.limit_of.ensures.1 _ c.in_ok-main.was _ _ c.first.ensures.0 (omega arith) c.enter_process.ensures
