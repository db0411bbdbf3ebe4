use Rattle.unfold.proofs.RowCases.{actions}
use Rattle.unfold.proofs.rows.condition.Goals as goal

pub returns-clause-puts : goal.returns-clause-puts
returns-clause-puts c = search (actions, c.in_ok-head.ensures)
