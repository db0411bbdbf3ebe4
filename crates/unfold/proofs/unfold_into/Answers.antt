use mathlib.Core.Path.{refl}
use borrow.Author.Rules.{rules}
use Rattle.unfold.proofs.MainCases.{into_put}
use Rattle.unfold.proofs.unfold_into.Goals as goal

pub returns : goal.returns
returns c = into_put _ _ _ _ _ _ _ _ _ refl (search rules) c.in_ok-unfold.ensures
