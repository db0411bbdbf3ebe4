use mathlib.Core.Path.{sym, ◌∙◌}
use Rattle.listing.specs.Laws.Coded.{pieces, pieces_counted, coded_row}
use Rattle.listing.proofs.skip_row.Goals as goal

pub returns : goal.returns
returns c = (c.skip_row.ensures.0, λ P Es rest h e. c.skip_row.ensures.1 P (pieces Es) rest (coded_row h) (e ∙ sym (pieces_counted Es)))
