-- A decision is written before a path that was found; any other answer is as it was.
use Rattle.std.proofs.Common.{rules}
use Rattle.derivation.proofs.Walking.{kept_same, decided_other}
use Rattle.derivation.proofs.arrays.Arrays.decide.Goals as goal

pub returns-in_default : goal.returns-in_default
returns-in_default c = record { kept = kept_same c.args.self.now; decided = decided_other c.args.self.now c.args.walked _ _ (search rules) }
