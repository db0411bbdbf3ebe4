use Rattle.std.proofs.Common.{rules}
use Rattle.std.proofs.Common.{refl}
use Rattle.sharing.proofs.ChangingPlaces.{part_changed, then_changed, then_short, join_changed}
use Rattle.sharing.proofs.change.Goals as goal

pub returns-then-n-i : goal.returns-then-n-i
returns-then-n-i c = then_short c.requires.0 c.requires.1 c.in-22.is c.if-n-i.true

pub returns-else-n-i : goal.returns-else-n-i
returns-else-n-i c = then_changed c.requires.0 c.requires.1 c.in-22.is refl c.change_part.ensures

pub returns-in-25 : goal.returns-in-25
returns-in-25 c = join_changed c.requires.0 c.requires.1 c.in-25.is c.join.ensures

pub returns-in_default : goal.returns-in_default
returns-in_default c = part_changed c.requires.0 c.requires.1 refl (search rules) (search rules) c.change_part-in_default.ensures
