use Rattle.codes.specs.Rows.{of_term}
use Rattle.listing.specs.Laws.Coded.{coded_term}
use Rattle.listing.proofs.skip.Goals as goal

pub returns : goal.returns
returns c = (c.skip.ensures.0, λ P E rest h. c.skip.ensures.1 P (of_term E) rest (coded_term h))
