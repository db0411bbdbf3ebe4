use mathlib.Core.Path.{◌∙◌, ap}
use Rattle.std.specs.Prelude.{Ok}
use Rattle.codes.specs.Laws.Due.{missing, allowed, barred}
use Rattle.codes.proofs.code_due.Goals as goal

pub returns-in_default-clause-coded : goal.returns-in_default-clause-coded
returns-in_default-clause-coded c = missing c.args.due c.args.s.now c.args.at c.in_default.ensures.lookup.3

pub returns-in-None-clause-coded : goal.returns-in-None-clause-coded
returns-in-None-clause-coded c =
    let w = c.in-Some.ensures.lookup in
    ap Ok c.from.ensures ∙ allowed c.args.due c.args.s.now c.args.at c.in-Some.w.now w.3.0 (w.3.1 0) c.in-None.ensures

pub returns-in-Some-refusal-clause-coded : goal.returns-in-Some-refusal-clause-coded
returns-in-Some-refusal-clause-coded c =
    let w = c.in-Some.ensures.lookup in
    barred c.args.due c.args.s.now c.args.at c.in-Some.w.now w.3.0 (w.3.1 0) c.in-Some-refusal.refusal c.in-Some-refusal.ensures
