use Rattle.rule_terms.proofs.Leaves.{row_out}
use Rattle.rule_terms.proofs.weight_of.Goals as goal

pub returns : goal.returns
returns c = search row_out
