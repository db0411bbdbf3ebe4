-- A case for each return: a number that no term has, no path (`nowhere_taken`), or the successor built along it (`there_taken`).
use Rattle.words.specs.Laws.Checking.{part}
use Rattle.steps.proofs.TakeCases.{too_many_taken, nowhere_taken, there_taken}
use Rattle.steps.proofs.moving.take_move_in.Goals as goal

pub returns-then-k-gt65535-clause-taken : goal.returns-then-k-gt65535-clause-taken
returns-then-k-gt65535-clause-taken c = too_many_taken _ _ c.if-k-gt65535.true _ _

pub returns-in_err-at-clause-taken : goal.returns-in_err-at-clause-taken
returns-in_err-at-clause-taken c = nowhere_taken c.in_err-at.ensures c.from_residual.ensures _

pub returns-clause-taken : goal.returns-clause-taken
returns-clause-taken c = there_taken c.in_ok-at.ensures (part c.in_ok-at.at c.find_path.new.path) c.build-b.ensures
