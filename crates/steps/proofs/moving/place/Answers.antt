-- A place, or none.
use Rattle.steps.proofs.TakeCases.{place_here, place_none}
use Rattle.steps.proofs.moving.place.Goals as goal

pub returns-in-At : goal.returns-in-At
returns-in-At c = place_here _ _ c.in-At.is

pub returns-in_default : goal.returns-in_default
returns-in_default c = place_none _ c.in_default.not-At
