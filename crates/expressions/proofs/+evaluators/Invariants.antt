-- The two evaluators and their helpers, which call one another; a number falls with each call (`decreases-..`): an evaluator calls a helper on the words
-- after the code, and a helper calls an evaluator on no more words than its own. What each returns is a case of `Cases` or of `Fronts`.
use lib.ListN.{length}
use Prim.Native.Nat.{◌+◌, ◌*◌}
use Rattle.expressions.proofs.+evaluators.Given as goal

abbrev pub decreases-paired : goal.decreases-paired
decreases-paired l = 4 * length l.t.now + 2

abbrev pub decreases-attribute : goal.decreases-attribute
decreases-attribute l = 4 * length l.t.now + 2

abbrev pub decreases-eval_cond : goal.decreases-eval_cond
decreases-eval_cond l = 4 * length l.s.now

abbrev pub decreases-eval_data : goal.decreases-eval_data
decreases-eval_data l = 4 * length l.s.now

abbrev pub decreases-joined : goal.decreases-joined
decreases-joined l = 4 * length l.t.now + 2

abbrev pub decreases-negated : goal.decreases-negated
decreases-negated l = 4 * length l.t.now + 2

abbrev pub decreases-operand : goal.decreases-operand
decreases-operand l = 4 * length l.s.now + 1

abbrev pub decreases-selected : goal.decreases-selected
decreases-selected l = 4 * length l.t.now + 2

abbrev pub decreases-compared : goal.decreases-compared
decreases-compared l = 4 * length l.t.now + 3
