-- One walk, with room for a fixed count of numbers (`derived_in`).
use Rattle.steps.proofs.TakeCases.{derived_in}
use Rattle.steps.proofs.moving.path_in.Goals as goal

pub returns : goal.returns
returns g c = record { kept = c.derive-r.ensures.kept; derived = derived_in c.derive-r.ensures.derived }
