use native.Mathlib.Omega.{arith}
use Rattle.admission.proofs.Cases.{judge_size, judge_breadth, judge_fine}
use Rattle.admission.proofs.judge.Goals as goal

pub returns-then-w-gt-REACH : goal.returns-then-w-gt-REACH
returns-then-w-gt-REACH c = judge_size c.args.cells c.args.w (omega (arith, c.if-w-gt-REACH.true))

pub returns-then-w-gt-BREADTH : goal.returns-then-w-gt-BREADTH
returns-then-w-gt-BREADTH c = judge_breadth c.args.cells c.args.w (omega (arith, c.if-w-gt-REACH.false)) c.if-w-gt-BREADTH.true

pub returns : goal.returns
returns c = judge_fine c.args.cells c.args.w _ (omega (arith, c.if-w-gt-REACH.false)) c.if-w-gt-BREADTH.false c.new.ensures
