use borrow.Author.Tests.{ne_eqb}
use Rattle.listing.specs.Laws.Operands.{both_second, both_first}
use Rattle.listing.proofs.both_done.Goals as goal

pub returns-then-first-eq-DONE : goal.returns-then-first-eq-DONE
returns-then-first-eq-DONE c = both_second _ _ _ _ c.first.ensures.0 c.if-first-eq-DONE.true c.behind.ensures c.first-then-first-eq-DONE.ensures.0

pub returns-else-first-eq-DONE : goal.returns-else-first-eq-DONE
returns-else-first-eq-DONE c = rw (ne_eqb c.first.result 30 c.if-first-eq-DONE.false) (both_first _ _ c.first.ensures.0 c.if-first-eq-DONE.false)
