-- The run in main's own words and what is written, put together (`masked_run`).
use mathlib.Core.Path.{refl}
use Rattle.runs.proofs.MainCases.{masked_run}
use Rattle.runs.proofs.main_process.run_masked.Goals as goal

pub returns : goal.returns
returns c = (c.run_moves-r.ensures.bytes, rw c.finish.ensures.totals (masked_run c.args.course.now c.args.scratch.now c.run_moves-r.ensures.words c.run_moves-r.ensures.run c.finish.ensures.written refl))
