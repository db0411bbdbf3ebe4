use Rattle.declarations.proofs.Cases.{entering_start, entering_fail, entering_front, entering_next, entering_end}
use Rattle.words.specs.Laws.Reading.{handed_err}
use Rattle.declarations.proofs.enter_labels.Goals as goal

pub loop-i-init : goal.loop-i-init
loop-i-init c = entering_start c.args.t.now c.args.tb.now c.args.n c.args.at c.args.d

pub returns-in_err-left : goal.returns-in_err-left
returns-in_err-left c = rw (handed_err _ _ c.from_residual.ensures) (entering_fail c.args.t.now c.args.tb.now c.loop-i.tb c.last-u.result.now c.args.n c.args.at c.args.d c.loop-i.left c.loop-i.i 0 _ c.loop-i.invariant c.loop-i-test.true c.requires c.last-u.ensures c.parameters.ensures _ c.in_err-left.was)

pub slice_bounds-copy-end : goal.slice_bounds-copy-end
slice_bounds-copy-end c = (entering_front c.args.t.now c.args.tb.now c.loop-i.tb c.last-u.result.now c.args.n c.args.at c.args.d c.loop-i.left c.loop-i.i c.first.result _ c.loop-i.invariant c.loop-i-test.true c.requires c.last-u.ensures c.parameters.ensures _ c.in_ok-left.was c.first.ensures.0).0

pub copy-requires : goal.copy-requires
copy-requires c = rw c.label_place_from.ensures ((entering_front c.args.t.now c.args.tb.now c.loop-i.tb c.last-u.result.now c.args.n c.args.at c.args.d c.loop-i.left c.loop-i.i c.first.result _ c.loop-i.invariant c.loop-i-test.true c.requires c.last-u.ensures c.parameters.ensures _ c.in_ok-left.was c.first.ensures.0).1)

pub loop-i-preserved : goal.loop-i-preserved
loop-i-preserved c = entering_next c.args.t.now c.args.tb.now c.loop-i.tb c.last-u.result.now c.args.n c.args.at c.args.d c.loop-i.left c.loop-i.i c.first.result _ c.loop-i.invariant c.loop-i-test.true c.requires c.last-u.ensures c.parameters.ensures _ c.in_ok-left.was c.first.ensures.0 _ (rw c.label_place_from.ensures at c.copy.ensures)

pub returns : goal.returns
returns c = entering_end c.args.t.now c.args.tb.now c.loop-i.tb c.args.n c.args.at c.args.d c.loop-i.left c.loop-i.i c.loop-i.invariant c.loop-i-test.false
