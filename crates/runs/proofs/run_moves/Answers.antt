use mathlib.Core.Path.{refl, ap, ◌∙◌}
use Rattle.derivation.specs.Laws.Arrays.{arrays_same, arrays_then}
use Rattle.runs.proofs.RunCases.{total, counted_once, run_start, run_next, run_end}
use native.Mathlib.Omega.{arith}
use Rattle.runs.proofs.run_moves.Goals as goal

pub loop-i-init : goal.loop-i-init
loop-i-init c = let h = c.default.ensures in (omega (arith, h.1.0, h.1.1.0, h.1.1.1), refl, refl, refl, arrays_same, run_start c.args.course.now c.args.held c.args.scratch.now c.default.result h)

pub loop-i-preserved : goal.loop-i-preserved
loop-i-preserved c = let v = c.loop-i.invariant in let o = c.step_once-done.ensures in (omega (arith, v.0, ap total c.counted-tally.ensures, counted_once c.loop-i.tally c.step_once-done.result), o.words ∙ v.1, o.store ∙ v.2, o.bytes ∙ v.3, arrays_then v.4 o.arrays, run_next c.args.course.now c.args.held c.args.scratch.now _ c.loop-i-test.true v.1 v.3 v.4 v.5 (c.from-k.ensures ∙ c.word_at.ensures) o.stepped c.counted-tally.ensures c.word_at-in-loop-i.ensures c.place-index.ensures.0 c.outcome.ensures c.count_one.ensures)

pub returns-clause-run : goal.returns-clause-run
returns-clause-run c = run_end c.args.course.now c.args.held c.args.scratch.now c.loop-i.i (omega (arith, c.loop-i-test.false)) c.loop-i.invariant.5
