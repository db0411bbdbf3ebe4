use Rattle.std.proofs.Common.{◌≡◌}
use Rattle.readers.specs.Placing.{put_first}
use Rattle.readers.proofs.write_records.Given as goal

-- Each turn of the loop writes one record more (`put_next`).
abbrev pub invariant-loop-i : goal.invariant-loop-i
invariant-loop-i l = l.table ≡ put_first l.i l.t l.initial.table
