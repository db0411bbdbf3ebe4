use Rattle.unfold.proofs.RowCases.{actions}
use Rattle.unfold.proofs.rows.action.Goals as goal

pub returns : goal.returns
returns c = search (actions, c.in_ok-head.ensures)
