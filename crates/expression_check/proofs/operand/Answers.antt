use Rattle.expression_check.proofs.Cases.{operand_taken, operand_refused}
use Rattle.expression_check.proofs.operand.Goals as goal

pub returns-in_err-number_or_refusal : goal.returns-in_err-number_or_refusal
returns-in_err-number_or_refusal c = operand_refused _ _ _ _ _ _ c.number_or_refusal.ensures _ _ c.in_err-number_or_refusal.was c.from_residual.ensures

pub returns : goal.returns
returns c = operand_taken _ _ _ _ _ _ c.number_or_refusal.ensures _ c.in_ok-number_or_refusal.was
