use Rattle.actions.proofs.Cases.{cases}
use Rattle.actions.proofs.argument_count.Goals as goal

pub returns-then-q-eq0 : goal.returns-then-q-eq0
returns-then-q-eq0 c = search cases

pub returns-then-q-lt65 : goal.returns-then-q-lt65
returns-then-q-lt65 c = search cases

pub returns-else-q-lt65 : goal.returns-else-q-lt65
returns-else-q-lt65 c = search cases
