-- One word at the start, the run and the last term spelled out, put together (`mask_free_run`); there is always room for a word (`mask_free_none`).
use Rattle.std.proofs.Common.{rules}
use mathlib.Core.Path.{refl}
use Rattle.runs.proofs.MaskFreeCases.{mask_free_none, mask_free_run}
use Rattle.words.specs.Laws.Checking.{set_first}
use lib.ListN.{length-set}
use Rattle.runs.proofs.main_process.run_mask_free.Goals as goal

pub returns-then-d-eq0 : goal.returns-then-d-eq0
returns-then-d-eq0 c = mask_free_none c.if-d-eq0.true

pub returns : goal.returns
returns c = rw c.finish.ensures.totals (mask_free_run c.args.course.now c.args.u c.args.scratch.now c.expand.result c.part_word.ensures (set_first c.args.d.now c.part_word.result c.if-d-eq0.false) (length-set c.args.d.now 0 c.part_word.result) c.run_moves-r.ensures.run c.front.ensures c.expand.ensures (search rules) c.run_moves-r.ensures.arrays.mid_length c.finish.ensures.written refl)
