use Rattle.codes.specs.Rows.{of_cond}
use Rattle.listing.specs.Laws.Coded.{coded_condition}
use Rattle.successors.proofs.conditions.behind_condition.Goals as goal

pub returns : goal.returns
returns c = (c.skip.ensures.0, λ P C rest h. c.skip.ensures.1 P (of_cond C) rest (coded_condition h))
