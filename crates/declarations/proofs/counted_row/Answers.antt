use mathlib.Core.Path.{refl}
use Rattle.words.specs.Laws.Reading.{handed_on}
use Rattle.words.specs.Laws.Rows.{counted_in, counted_out, loop_start, loop_fail, loop_next, loop_end}
use Rattle.declarations.proofs.counted_row.Goals as goal

pub returns-in_err-m : goal.returns-in_err-m
returns-in_err-m g c = λ f h k. handed_on _ _ _ c.from_residual.ensures (counted_out _ _ f _ _ c.count.ensures _ c.in_err-m.was)

pub loop-init : goal.loop-init
loop-init g c = λ f h k. loop_start f c.last-row.result.now c.first-n.result

pub loop-preserved : goal.loop-preserved
loop-preserved g c = λ f h k. loop_next f h c.last-row.result.now c.last.result.now c.first-n.result c.loop.left c.loop.counter c.one.result (c.loop.invariant f h k) c.loop-test.true c.last.ensures
    (k _ _ (record { shown = c.last.result; shows = refl; says = record { met = c.one.ensures } })) _ c.in_ok-left.was

pub returns-in_err-left : goal.returns-in_err-left
returns-in_err-left g c = λ f h k. handed_on _ _ _ c.from_residual-in_err-left.ensures
    (counted_in _ _ f _ _ c.count.ensures c.last-row.result.now _ _ _ c.in_ok-m.was c.last-row.ensures c.first-n.ensures.0
    (loop_fail f h c.last-row.result.now c.last.result.now c.first-n.result c.loop.left c.loop.counter c.one.result (c.loop.invariant f h k) c.loop-test.true c.last.ensures
    (k _ _ (record { shown = c.last.result; shows = refl; says = record { met = c.one.ensures } })) _ c.in_err-left.was))

pub returns : goal.returns
returns g c = λ f h k. counted_in _ _ f _ _ c.count.ensures c.last-row.result.now _ _ _ c.in_ok-m.was c.last-row.ensures c.first-n.ensures.0
    (loop_end f c.last-row.result.now c.first-n.result c.loop.left c.loop.counter (c.loop.invariant f h k) c.loop-test.false)
