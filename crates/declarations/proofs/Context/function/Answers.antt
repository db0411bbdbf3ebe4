use Rattle.declarations.proofs.NotingCases.{placed, function_refused, function_stopped, function_noted}
use native.Mathlib.Omega.{arith}
use Rattle.words.specs.Laws.Reading.{handed_err}
use Rattle.declarations.proofs.Context.function.Goals as goal

pub returns : goal.returns
returns c = (placed _ _ _ _ _ _ _ _ _ c.row_place-at.ensures.0 (function_noted c.args.self.now.tables.now c.args.t.now c.args.dir.now c.args.self.now.functions c.args.i _ c.args.begin _ _ c.domains.ensures c.number_or_refusal.ensures _ _ _ c.last.result.now _ _ _ _ c.in_ok-m.was c.last.ensures c.first-d.ensures.0 c.size_of-cells.ensures.0 c.size_of-cells.ensures.1 c.note.ensures c.note-2.ensures c.expressions.ensures _ c.in_ok-left.was), omega arith)

pub returns-in_err-left : goal.returns-in_err-left
returns-in_err-left c = rw (handed_err _ _ c.from_residual-in_err-left.ensures) (placed _ _ _ _ _ _ _ _ _ c.row_place-at.ensures.0 (function_stopped c.args.self.now.tables.now c.args.t.now c.args.dir.now c.args.self.now.functions c.args.i _ c.args.begin _ _ c.domains.ensures c.number_or_refusal.ensures _ _ _ c.last.result.now _ _ _ _ c.in_ok-m.was c.last.ensures c.first-d.ensures.0 c.size_of-cells.ensures.0 c.size_of-cells.ensures.1 c.note.ensures c.note-2.ensures c.expressions.ensures _ c.in_err-left.was), tt)

pub returns-in_err-m : goal.returns-in_err-m
returns-in_err-m c = rw (handed_err _ _ c.from_residual.ensures) (placed _ _ _ _ _ _ _ _ _ c.row_place-at.ensures.0 (function_refused c.args.self.now.tables.now c.args.t.now c.args.dir.now c.args.self.now.functions c.args.i _ c.args.begin _ _ c.domains.ensures c.number_or_refusal.ensures _ c.in_err-m.was), tt)
