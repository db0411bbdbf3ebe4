use native.Mathlib.Omega.{arith}
use Rattle.tables.specs.Layout.{label_count}
use Rattle.declarations.proofs.LaterCases.{sofar_end, sofar_fail}
use Rattle.words.specs.Laws.Reading.{handed_err}
use Rattle.declarations.proofs.Context.later.Goals as goal

pub returns-in_err-left : goal.returns-in_err-left
returns-in_err-left c = rw (handed_err _ _ c.from_residual.ensures) (sofar_fail c.args.t.now c.args.self.now.tables.now c.args.dir.now c.label_row.result.now c.last.result.now c.loop-l.dir _ c.args.self.now.functions c.args.i (label_count c.args.self.now.tables.now) c.args.at c.loop-l.left c.loop-l.l _ c.loop-l.invariant (omega arith) c.note.ensures c.last.ensures c.label_row.ensures c.check_data.ensures _ c.in_err-left.was)

pub returns : goal.returns
returns c = sofar_end c.args.t.now c.args.self.now.tables.now c.args.dir.now c.args.self.now.functions c.args.i (label_count c.args.self.now.tables.now) c.args.at c.loop-l.dir c.loop-l.left c.loop-l.l c.loop-l.invariant (omega arith)
