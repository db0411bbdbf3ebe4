use Rattle.std.proofs.Common.{◌∙◌, rules}
use Rattle.steps.proofs.Tallying.{counted}
use Rattle.steps.proofs.counting.count_moves.Goals as goal

pub returns : goal.returns
returns c = λ P E w. c.unwrap_or.ensures ∙ counted _ _ _ _ (λ l v h. search rules) c.of_moves.ensures P E w
