use Rattle.cells.specs.Laws.Turns.{fill_start, fill_next, fill_end}
use mathlib.Core.Path.{refl}
use native.Mathlib.Omega.{arith}
use Rattle.cells.proofs.fill.Goals as goal

pub loop-f-init : goal.loop-f-init
loop-f-init c = (refl, λ A o b h. fill_start A o b _)

pub loop-f-preserved : goal.loop-f-preserved
loop-f-preserved c = let a = c.args in let n = a.functions.now in (omega arith, λ A o b h. fill_next A o b n.words.now n.directory.now a.m.now n.width a.j n.count h c.loop-f.m _ c.loop-f.f c.entry-left.result n.few c.loop-f-test.true c.entry-left.ensures c.fill_function.ensures.1 (c.loop-f.invariant.1 A o b h))

pub returns : goal.returns
returns c = let a = c.args in let n = a.functions.now in (c.loop-f.invariant.0, λ A o b h. fill_end A o b n.words.now n.directory.now a.m.now n.width a.j n.count h c.loop-f.m c.loop-f.f (omega arith) c.loop-f-test.false (c.loop-f.invariant.1 A o b h))
