use Rattle.words.specs.Laws.Reading.{handed_err}
use Rattle.tables.proofs.Cases.{variable_bad}
use Rattle.tables.proofs.variable_argument.Goals as goal

pub returns-in_err-n : goal.returns-in_err-n
returns-in_err-n c = rw (handed_err _ _ c.from_residual.ensures) (variable_bad _ _ _ _ c.number_or_refusal.ensures _ c.in_err-n.was)
