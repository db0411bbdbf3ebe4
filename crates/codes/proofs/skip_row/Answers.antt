use mathlib.Core.Path.{refl, sym, subst}
use Rattle.codes.specs.Laws.Skipping.{skip_start, skip_none, skip_action, few_words, Skipping}
use Rattle.codes.proofs.Walking.{skip_on}
use native.Mathlib.Omega.{arith}
use Prim.Native.Nat.{◌+◌, ◌*◌, ◌-◌}
use Rattle.codes.proofs.skip_row.Goals as goal

pub loop-due-init : goal.loop-due-init
loop-due-init c = (omega arith, omega arith, skip_start c.args.shape c.args.s.now c.args.n)

pub returns-in_default : goal.returns-in_default
returns-in_default c = skip_none c.args.shape c.args.s.now c.loop-due.at c.loop-due.due 0 c.args.n c.loop-due-test.true c.loop-due.invariant.2 c.in_default.ensures

pub loop-due-preserved-then-w-eq-ACTION : goal.loop-due-preserved-then-w-eq-ACTION
loop-due-preserved-then-w-eq-ACTION c =
    let w = c.in-Some.ensures in
    let shape = c.args.shape in
    let at = c.loop-due.at in
    let few = few_words c.arguments.result c.width.result c.arguments.ensures.1 c.width.ensures.1 in
    let past = skip_action shape c.args.s.now c.args.n at c.loop-due.due c.in-Some.w c.arguments.result _ c.loop-due-test.true c.loop-due.invariant.2 w.0 c.if-w-eq-ACTION.true refl c.arguments.ensures.0 in
    (omega arith, omega arith, subst (λ v. Skipping shape c.args.s.now c.args.n (at + 2 + c.arguments.result * (1 + v)) (c.loop-due.due - 1)) (sym c.width.ensures.0) past)

pub loop-due-preserved-then-k-eq0 : goal.loop-due-preserved-then-k-eq0
loop-due-preserved-then-k-eq0 c = (omega arith, omega arith, skip_on _ _ _ _ _ c.loop-due-test.true _ _ _ _ c.in-Some.ensures.0 c.words_after-k.ensures.0 c.operands_after.ensures.0 c.second_arguments.ensures.0 (omega (arith, c.if-k-eq0.true)) _ c.loop-due.invariant.2 c.if-w-eq-ACTION.false)

pub loop-due-preserved-then-k-eq1 : goal.loop-due-preserved-then-k-eq1
loop-due-preserved-then-k-eq1 c = (omega arith, omega arith, skip_on _ _ _ _ _ c.loop-due-test.true _ _ _ _ c.in-Some.ensures.0 c.words_after-k.ensures.0 c.operands_after.ensures.0 c.second_arguments.ensures.0 (omega (arith, c.if-k-eq1.true)) _ c.loop-due.invariant.2 c.if-w-eq-ACTION.false)

pub loop-due-preserved : goal.loop-due-preserved
loop-due-preserved c = (omega arith, omega arith, skip_on _ _ _ _ _ c.loop-due-test.true _ _ _ _ c.in-Some.ensures.0 c.words_after-k.ensures.0 c.operands_after.ensures.0 c.second_arguments.ensures.0 (refl) _ c.loop-due.invariant.2 c.if-w-eq-ACTION.false)
