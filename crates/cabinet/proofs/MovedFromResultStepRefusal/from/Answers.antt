use Rattle.cabinet.proofs.Cases.{step_gives, step_refuses}
use mathlib.Core.Path.{◌∙◌}
use Rattle.cabinet.proofs.MovedFromResultStepRefusal.from.Goals as goal

pub returns-in-Ok : goal.returns-in-Ok
returns-in-Ok c = c.from.ensures ∙ step_gives c.args.r _ c.in-Ok.is

pub returns-in-Err : goal.returns-in-Err
returns-in-Err c = step_refuses c.args.r _ _ c.default.result c.in-Err.is c.from-in-Err.ensures c.default.ensures
