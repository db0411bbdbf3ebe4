use Rattle.std.proofs.Common.{◌∙◌, rules}
use Rattle.steps.proofs.Finding.{first_found}
use Rattle.steps.proofs.counting.first_move.Goals as goal

pub returns : goal.returns
returns c = λ P E w ρ small is. c.unwrap_or.ensures ∙ first_found _ _ c.args.code _ _ (λ l q h. search rules) c.of_moves.ensures P E w ρ small is
