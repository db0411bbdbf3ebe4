use Rattle.words.specs.Laws.Reading.{handed_err}
use Rattle.tables.proofs.Cases.{constant_bad, constant_is, constant_is_not}
use Rattle.tables.proofs.constant_argument.Goals as goal

pub returns-in_err-n : goal.returns-in_err-n
returns-in_err-n c = rw (handed_err _ _ c.from_residual.ensures) (constant_bad _ _ _ _ c.number_or_refusal.ensures _ c.in_err-n.was)

pub returns-then-first-size_of : goal.returns-then-first-size_of
returns-then-first-size_of c = constant_is _ _ _ _ c.number_or_refusal.ensures _ _ _ c.in_ok-n.was c.first.ensures.0 c.size_of.ensures.0 c.if-first-size_of.true

pub returns : goal.returns
returns c = constant_is_not _ _ _ _ c.number_or_refusal.ensures _ _ _ c.in_ok-n.was c.first.ensures.0 c.size_of.ensures.0 c.if-first-size_of.false
