use Rattle.declarations.proofs.NotingCases.{functions_start, functions_fail, functions_more, functions_end}
use Rattle.words.specs.Laws.Reading.{handed_err}
use Rattle.declarations.proofs.functions.Goals as goal

pub loop-j-init : goal.loop-j-init
loop-j-init c = functions_start c.args.tb.now c.args.t.now c.args.dir.now c.args.n c.args.k c.args.i c.args.begin

pub returns-in_err-one : goal.returns-in_err-one
returns-in_err-one c = rw (handed_err _ _ c.from_residual.ensures) (functions_fail c.args.tb.now c.args.t.now c.args.dir.now c.loop-j.dir c.function.new.dir c.last.result.now c.args.n c.args.k c.args.i c.args.begin c.loop-j.left c.loop-j.cells c.loop-j.j _ c.loop-j.invariant c.loop-j-test.true c.last.ensures c.function.ensures.0 _ c.in_err-one.was, tt)

pub loop-j-preserved : goal.loop-j-preserved
loop-j-preserved c = functions_more c.args.tb.now c.args.t.now c.args.dir.now c.loop-j.dir c.function.new.dir c.last.result.now c.args.n c.args.k c.args.i c.args.begin c.loop-j.left c.loop-j.cells c.loop-j.j _ c.loop-j.invariant c.loop-j-test.true c.last.ensures c.function.ensures.0 _ c.in_ok-one.was c.function.ensures.1

pub returns : goal.returns
returns c = functions_end c.args.tb.now c.args.t.now c.args.dir.now c.loop-j.dir c.args.n c.args.k c.args.i c.args.begin c.loop-j.left c.loop-j.cells c.loop-j.j c.loop-j.invariant c.loop-j-test.false
