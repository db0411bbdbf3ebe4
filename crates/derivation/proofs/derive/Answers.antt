-- Below no mask every move shows.
use Rattle.derivation.proofs.Arms.{derived_all}
use Rattle.derivation.proofs.derive.Goals as goal

pub returns : goal.returns
returns c = record { kept = c.derive_lent.auto.path; derived = derived_all c.derive_lent.ensures }
