-- An action leads to Done; its number and the words after it are read off the term.
use Rattle.successors.proofs.Cases.{action_case}
use Rattle.successors.proofs.begin_action.Goals as goal

pub returns : goal.returns
returns c = search (action_case)
