-- A case for each return: held in full or over the unfolding, with such a move or without.
use Rattle.runs.proofs.FullCases.{moved_full_none, moved_full}
use Rattle.runs.proofs.OverCases.{moved_over_none, moved_over}
use Rattle.runs.proofs.held.take.Goals as goal

pub returns-in_err-taken-in-InFull-clause-moved : goal.returns-in_err-taken-in-InFull-clause-moved
returns-in_err-taken-in-InFull-clause-moved c = rw c.in-InFull.is (moved_full_none c.args.k c.args.scratch.now c.front.ensures c.in_err-taken-in-InFull.ensures.taken c.from_residual.ensures)

pub returns-in_ok-taken-in-InFull-clause-moved : goal.returns-in_ok-taken-in-InFull-clause-moved
returns-in_ok-taken-in-InFull-clause-moved c = rw c.in-InFull.is (moved_full c.args.k c.args.scratch.now c.front.ensures c.in_ok-taken-in-InFull.ensures.taken c.load.ensures)

pub returns-in_err-moved-in-Over-clause-moved : goal.returns-in_err-moved-in-Over-clause-moved
returns-in_err-moved-in-Over-clause-moved c = rw c.in-Over.is (moved_over_none c.in-Over.u c.args.scratch.now c.in_err-moved-in-Over.ensures.stepped c.from_residual-in_err-moved-in-Over.ensures)

pub returns-in_ok-moved-in-Over-clause-moved : goal.returns-in_ok-moved-in-Over-clause-moved
returns-in_ok-moved-in-Over-clause-moved c = rw c.in-Over.is (moved_over c.in-Over.u c.args.scratch.now c.in_ok-moved-in-Over.moved c.in_ok-moved-in-Over.ensures.stepped)
