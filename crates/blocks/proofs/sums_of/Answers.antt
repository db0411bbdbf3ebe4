use native.Mathlib.Omega.{arith}
use lib.ListN.{length-take, length-drop}
use Rattle.blocks.proofs.Sums.{head_room, sums_found}
use Rattle.blocks.proofs.sums_of.Goals as goal

pub add_bytes-whole-requires : goal.add_bytes-whole-requires
add_bytes-whole-requires c =
    let room = head_room c.args.block.now c.add_bytes-head.ensures (c.fits-block 0) (c.fits-block 1) in
    (simp (length-take, length-drop) (omega arith), room.0, room.1)

pub returns : goal.returns
returns c = sums_found c.args.block.now c.add_bytes-head.ensures c.told-block c.add_bytes-whole.ensures c.under_255.ensures c.under_255-2.ensures
