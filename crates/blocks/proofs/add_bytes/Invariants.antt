-- The bytes still to come, added to the sums so far, give the whole sums; each byte adds at most 255 to a and at most 131,070 to b.
-- The second loop goes on from where the first stopped.
use mathlib.Core.Path.{◌≡◌}
use Prim.Native.Nat.{◌+◌, ◌*◌, ◌≤◌}
use lib.ListN.{drop}
use Rattle.eb3.specs.Blocks.{plain_sums}
use Rattle.blocks.proofs.add_bytes.Given as goal

abbrev pub invariant-loop-x : goal.invariant-loop-x
invariant-loop-x l = record {
  a_below : l.a ≤ 510 + 2040 * l.x-index;
  b_below : l.b ≤ 1020 + 1048560 * l.x-index;
  summed : plain_sums (record { a = l.fn.from.a; b = l.fn.from.b }) l.s ≡ plain_sums (record { a = l.a; b = l.b }) (drop (8 * l.x-index) l.s);
}

abbrev pub invariant-loop-y : goal.invariant-loop-y
invariant-loop-y l = record {
  a_below : l.a ≤ l.initial.a + 255 * l.y-index;
  b_below : l.b ≤ l.initial.b + 131070 * l.y-index;
  summed : plain_sums (record { a = l.fn.from.a; b = l.fn.from.b }) l.s ≡ plain_sums (record { a = l.a; b = l.b }) (drop l.y-index l.rest);
}
