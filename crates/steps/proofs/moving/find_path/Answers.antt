-- Sought in the lent numbers first, then in more room, until there is an answer (`answered_path`); in the most room there is one (`most_path`).
use mathlib.Core.Path.{refl, ◌∙◌}
use Rattle.steps.proofs.TakeCases.{answered_path, most_path}
use Rattle.steps.proofs.moving.find_path.Goals as goal

pub returns-in_default : goal.returns-in_default
returns-in_default c = answered_path refl c.derive-few.ensures.kept c.place.ensures c.derive-few.ensures.derived c.in_default.not-NoRoom

pub returns-in_default-more : goal.returns-in_default-more
returns-in_default-more c = answered_path c.derive-few.ensures.kept c.path_in-more.ensures.kept c.place-in_default-more.ensures c.path_in-more.ensures.derived c.in_default-more.not-NoRoom

pub returns : goal.returns
returns c = most_path (c.path_in-more.ensures.kept ∙ c.derive-few.ensures.kept) c.path_in-most.ensures.kept c.place-2.ensures c.path_in-most.ensures.derived
