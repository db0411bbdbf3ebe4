use mathlib.Core.Path.{ap}
use Rattle.words.specs.Laws.Reading.{handed_on}
use Rattle.blocks.specs.Opening.{counted}
use Rattle.admission.specs.Laws.Opening.{admit_refused, admit_read}
use Rattle.admission.proofs.admit.Goals as goal

pub returns-then-file-le1 : goal.returns-then-file-le1
returns-then-file-le1 c = rw (← c.«open».ensures.same_bytes _ c.in_ok-file.was) (admit_read _ c.in_ok-file.file.opened _ c.admit_sized.ensures)

pub returns-then-file-le8 : goal.returns-then-file-le8
returns-then-file-le8 c = rw (← c.«open».ensures.same_bytes _ c.in_ok-file.was) (admit_read _ c.in_ok-file.file.opened _ c.admit_sized-then-file-le8.ensures)

pub returns : goal.returns
returns c = rw (← c.«open».ensures.same_bytes _ c.in_ok-file.was) (admit_read _ c.in_ok-file.file.opened _ c.admit_sized-2.ensures)

pub returns-in_err-file : goal.returns-in_err-file
returns-in_err-file c = handed_on _ _ _ c.from_residual.ensures (admit_refused _ _ c.«open».ensures.answer _ (ap counted c.in_err-file.was))
