use Rattle.words.specs.Laws.Reading.{handed_on}
use Rattle.rule_terms.proofs.Leaves.{leaves}
use Rattle.rule_terms.proofs.call.Goals as goal

pub returns-in_err-n : goal.returns-in_err-n
returns-in_err-n c = let z = c.in_err-n.was in handed_on _ _ _ c.from_residual.ensures (search leaves)

pub returns-in_err-left : goal.returns-in_err-left
returns-in_err-left c = let x = c.in_ok-n.was in let z = c.in_err-left.was in handed_on _ _ _ c.from_residual-in_err-left.ensures (search leaves)

pub returns : goal.returns
returns c = let x = c.in_ok-n.was in let y = c.in_ok-left.was in search leaves
