use Rattle.std.proofs.Common.{rules}
use Rattle.engine.proofs.CountCases.{counted_given}
use Rattle.engine.proofs.counting.count.Goals as goal

pub returns : goal.returns
returns c = counted_given _ _ _ c.with_given.ensures _ (λ a s g h. search rules)
