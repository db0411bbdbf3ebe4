use native.Mathlib.Omega.{arith}
use Rattle.unfold.proofs.RowCases.{arguments_short, arguments_start, arguments_full, arguments_next, arguments_end}
use Rattle.unfold.proofs.rows.put_arguments.Goals as goal

pub returns-then-s-m : goal.returns-then-s-m
returns-then-s-m c = arguments_short _ _ _ _ c.if-s-m.true

pub loop-j-init : goal.loop-j-init
loop-j-init c = arguments_start _ _ _ _

pub returns-in_err-head : goal.returns-in_err-head
returns-in_err-head c = arguments_full _ _ _ _ _ _ c.loop-j.invariant (omega arith) _ c.argument.ensures _ _ c.from_residual.ensures c.in_err-head.ensures

pub loop-j-preserved : goal.loop-j-preserved
loop-j-preserved c = arguments_next _ _ _ _ _ _ c.loop-j.invariant (omega arith) _ c.argument.ensures _ _ c.in_ok-head.ensures

pub returns : goal.returns
returns c = arguments_end _ _ _ _ _ _ c.loop-j.invariant (omega arith)
