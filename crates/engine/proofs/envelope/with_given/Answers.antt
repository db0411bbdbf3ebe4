use mathlib.Core.Path.{ap}
use Rattle.words.specs.Laws.Reading.{handed_err}
use Rattle.blocks.specs.Opening.{counted}
use Rattle.admission.specs.Laws.Opening.{open_refused}
use Rattle.engine.proofs.EnvelopeCases.{unopened_given, refused_at}
use Rattle.engine.proofs.envelope.with_given.Goals as goal

pub returns-in_err-file : goal.returns-in_err-file
returns-in_err-file g c = rw (handed_err _ _ c.from_residual.ensures) (refused_at _ _ _ _ (unopened_given c.args.rules.now c.args.term.now _ (open_refused c.args.rules.now _ c.«open».ensures.answer _ (ap counted c.in_err-file.was))))
