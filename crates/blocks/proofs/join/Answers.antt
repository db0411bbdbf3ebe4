use mathlib.Core.Path.{refl}
use native.Mathlib.Omega.{arith}
use Rattle.blocks.proofs.Joining.{join_more, join_behind, join_end}
use Rattle.blocks.proofs.join.Goals as goal

pub loop-i-preserved : goal.loop-i-preserved
loop-i-preserved c =
    let i = c.loop-i.invariant in
    let p = c.requires in
    (join_more _ _ _ _ _ _ p.0 p.1 (omega arith) i.0 i.1 (omega arith) _ c.decode.ensures, join_behind _ _ _ _ _ _ p.0 p.1 (omega arith) i.0 i.1 (omega arith) _ c.decode.ensures)

pub returns : goal.returns
returns c =
    let i = c.loop-i.invariant in
    let p = c.requires in
    join_end _ _ _ _ _ _ p.0 p.1 (omega arith) i.0 i.1 (omega arith) (omega arith) refl
