-- The loop's next round is stated by hand: `search` over that many facts breaks off.
use Rattle.term_check.proofs.Values.{Met}
use Rattle.term_check.proofs.elements.Given as goal

-- The loop's next round is stated by hand: `search` over that many facts breaks off.
abbrev pub invariant-loop-i : goal.invariant-loop-i
invariant-loop-i l = Met l.tb l.ds l.t l.i
