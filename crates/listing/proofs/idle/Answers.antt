use Rattle.listing.specs.Laws.Coded.{coded_term}
use Rattle.listing.proofs.idle.Goals as goal

pub returns : goal.returns
returns c = λ P E rest h. c.idle.ensures P E rest (coded_term h)
