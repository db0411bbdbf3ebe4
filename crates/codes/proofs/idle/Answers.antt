use mathlib.Core.Path.{refl, sym, ◌∙◌}
use native.Mathlib.Omega.{arith}
use Rattle.codes.specs.Laws.Skipping.{idle_start, idle_none, idle_stops, idle_all}
use Rattle.codes.proofs.Walking.{idle_on}
use Rattle.codes.proofs.idle.Goals as goal

pub loop-due-init : goal.loop-due-init
loop-due-init c = (omega arith, omega arith, idle_start c.args.shape c.args.s.now)

pub returns-in_default : goal.returns-in_default
returns-in_default c = idle_none c.args.shape c.args.s.now c.loop-due.at c.loop-due.due 0 c.loop-due-test.true c.loop-due.invariant.2 c.in_default.ensures

pub returns-then-moving : goal.returns-then-moving
returns-then-moving c = idle_stops c.args.shape c.args.s.now c.loop-due.at c.loop-due.due c.in-Some.w c.loop-due-test.true c.loop-due.invariant.2 c.in-Some.ensures.0 (sym c.moving.ensures ∙ c.if-moving.true)

pub loop-due-preserved-then-k-eq0 : goal.loop-due-preserved-then-k-eq0
loop-due-preserved-then-k-eq0 c = (omega arith, omega arith, idle_on _ _ _ _ _ c.loop-due-test.true _ _ _ _ c.in-Some.ensures.0 c.words_after-k.ensures.0 c.operands_after.ensures.0 c.second_arguments.ensures.0 (omega (arith, c.if-k-eq0.true)) c.loop-due.invariant.2 (sym c.moving.ensures ∙ c.if-moving.false))

pub loop-due-preserved-then-k-eq1 : goal.loop-due-preserved-then-k-eq1
loop-due-preserved-then-k-eq1 c = (omega arith, omega arith, idle_on _ _ _ _ _ c.loop-due-test.true _ _ _ _ c.in-Some.ensures.0 c.words_after-k.ensures.0 c.operands_after.ensures.0 c.second_arguments.ensures.0 (omega (arith, c.if-k-eq1.true)) c.loop-due.invariant.2 (sym c.moving.ensures ∙ c.if-moving.false))

pub loop-due-preserved : goal.loop-due-preserved
loop-due-preserved c = (omega arith, omega arith, idle_on _ _ _ _ _ c.loop-due-test.true _ _ _ _ c.in-Some.ensures.0 c.words_after-k.ensures.0 c.operands_after.ensures.0 c.second_arguments.ensures.0 (refl) c.loop-due.invariant.2 (sym c.moving.ensures ∙ c.if-moving.false))

pub returns : goal.returns
returns c = idle_all c.args.shape c.args.s.now c.loop-due.at c.loop-due.due c.loop-due-test.false c.loop-due.invariant.2
