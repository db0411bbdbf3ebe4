use mathlib.Core.Path.{refl}
use native.Mathlib.Omega.{arith}
use Rattle.blocks.proofs.Chunks.{chunk_at}
use Rattle.blocks.proofs.Sums.{plain_next, plain_chunk, plain_end}
use Rattle.blocks.proofs.add_bytes.Goals as goal

pub loop-x-preserved : goal.loop-x-preserved
loop-x-preserved c = record {
  a_below = omega arith;
  b_below = omega arith;
  summed = let cut = c.as_chunks.ensures in plain_chunk c.args.s.now _ _ _ _ _ (omega arith) (chunk_at 8 _ c.loop-x.x-index _ _ _ cut.front cut.front_len c.loop-x-test.true) c.eight-p.ensures c.loop-x.invariant.summed;
}

pub loop-y-preserved : goal.loop-y-preserved
loop-y-preserved c = record {
  a_below = omega arith;
  b_below = omega arith;
  summed = plain_next _ _ _ _ _ _ c.loop-y-test.true refl c.loop-y.invariant.summed;
}

pub returns : goal.returns
returns c = plain_end _ _ _ _ _ c.loop-y-test.false c.loop-y.invariant.summed
