-- Below no mask every move shows.
use Rattle.derivation.proofs.Arms.{derived_all}
use Rattle.derivation.proofs.arrays.Arrays.walk_all.Goals as goal

pub returns-clause-derived : goal.returns-clause-derived
returns-clause-derived c = derived_all c.walk.ensures.derived
