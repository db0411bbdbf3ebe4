use Rattle.expression_check.proofs.Cases.{data_refused}
use Rattle.expression_check.proofs.data_front.Goals as goal

pub returns-in_err-w : goal.returns-in_err-w
returns-in_err-w c = data_refused _ _ _ _ _ _ c.from_residual.ensures c.in_err-w.ensures.coded
