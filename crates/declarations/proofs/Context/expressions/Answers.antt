use Rattle.declarations.proofs.NotingCases.{expressions_refused, expressions_noted}
use Rattle.words.specs.Laws.Reading.{handed_err}
use Rattle.declarations.proofs.Context.expressions.Goals as goal

pub returns : goal.returns
returns c = expressions_noted c.args.self.now.tables.now c.args.t.now c.args.dir.now _ c.args.self.now.functions c.args.i c.args.at c.note.ensures _ c.check_data.ensures c.last.result.now _ _ _ c.in_ok-m.was c.last.ensures c.later.ensures

pub returns-in_err-m : goal.returns-in_err-m
returns-in_err-m c = rw (handed_err _ _ c.from_residual.ensures) (expressions_refused c.args.self.now.tables.now c.args.t.now c.args.dir.now _ c.args.self.now.functions c.args.i c.args.at c.note.ensures _ c.check_data.ensures _ c.in_err-m.was)
