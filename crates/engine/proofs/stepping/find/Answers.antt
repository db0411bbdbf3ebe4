use Rattle.engine.proofs.StepCases.{action_found}
use Rattle.engine.proofs.stepping.find.Goals as goal

pub returns-in-Action : goal.returns-in-Action
returns-in-Action c = action_found _ _ _ _ _ c.in-Action.is c.first_move.ensures
