use Rattle.listing.proofs.Arms.{action_hidden, action_listed}
use Rattle.listing.proofs.lister.Lister.list_action.Goals as goal

pub returns-then-in_set-clause-listed : goal.returns-then-in_set-clause-listed
returns-then-in_set-clause-listed c = action_hidden _ _ _ _ _ _ _ c.code_at-a.ensures c.behind_action-n.ensures.1 _ c.in_set.ensures c.if-in_set.true

pub returns-clause-listed : goal.returns-clause-listed
returns-clause-listed c = action_listed _ _ _ _ _ _ _ c.code_at-a.ensures c.behind_action-n.ensures.1 _ c.in_set.ensures _ _ _ c.if-in_set.false c.list_one.ensures.listed
