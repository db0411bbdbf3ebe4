use borrow.Author.Rules.{rules}
use Rattle.unfold.proofs.RowCases.{variable_put, copied_put}
use Rattle.unfold.proofs.rows.put_front.Goals as goal

pub returns-then-c-eq-VARIABLE : goal.returns-then-c-eq-VARIABLE
returns-then-c-eq-VARIABLE c = variable_put _ _ _ _ _ _ _ _ (search rules) c.behind.ensures c.first.ensures.0 (search rules) c.head.ensures

pub returns : goal.returns
returns c = search copied_put
