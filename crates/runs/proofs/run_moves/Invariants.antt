use mathlib.Core.Path.{◌≡◌}
use lib.ListN.{length}
use Rattle.derivation.specs.Arrays.{SameArrays}
use Rattle.runs.proofs.RunCases.{total, RunningTo}
use Rattle.runs.proofs.run_moves.Given as goal

-- After i numbers the machine is run by the first i (`run_next`), and as many are counted, so that no count overflows.
abbrev pub invariant-loop-i : goal.invariant-loop-i
invariant-loop-i l = (total l.tally ≡ l.i) × (length l.ws ≡ length l.initial.ws) × (length l.m ≡ length l.initial.m) × (length l.out ≡ length l.initial.out) × SameArrays l.initial.scratch l.scratch × RunningTo l.course l.held l.n l.initial.ws l.initial.m l.initial.out l.initial.scratch l.initial.by_reader l.i l.ws l.m l.out l.by_reader l.tally
