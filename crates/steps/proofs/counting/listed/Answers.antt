use Rattle.std.proofs.Common.{refl}
use Rattle.steps.proofs.Tallying.{made_none, made_of}
use Rattle.steps.proofs.counting.listed.Goals as goal

pub returns-in_err-moves : goal.returns-in_err-moves
returns-in_err-moves g c = rw c.from_residual.ensures (made_none _ _ _ _ _ c.in_err-moves.ensures)

pub returns : goal.returns
returns g c = made_of _ _ _ _ _ _ _ c.in_ok-moves.ensures (record { shown = _; shows = refl; says = record { met = c.then.ensures } })
