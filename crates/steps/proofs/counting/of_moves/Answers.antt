use Rattle.std.proofs.Common.{rules}
use Rattle.steps.proofs.Tallying.{made_as, made_below, made_most}
use Rattle.steps.proofs.counting.of_moves.Goals as goal

pub returns-in-Some : goal.returns-in-Some
returns-in-Some g c = made_as _ _ _ _ _ (λ l v e. search rules) (made_below _ _ _ 256 _ c.in-Some.ensures)

pub returns-in-Some-listed : goal.returns-in-Some-listed
returns-in-Some-listed g c = made_as _ _ _ _ _ (λ l v e. search rules) (made_below _ _ _ 4096 _ c.in-Some-listed.ensures)

pub returns : goal.returns
returns g c = made_as _ _ _ _ _ (λ l v e. search rules) (made_most _ _ _ _ c.listed-3.ensures)
