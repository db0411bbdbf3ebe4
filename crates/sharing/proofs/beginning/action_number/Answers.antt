-- The number of a small action is below 1,048,576, so the other answer is never asked for.
use native.Mathlib.Omega.{arith}
use Rattle.sharing.proofs.BeginningCodes.{never_large}
use Rattle.sharing.proofs.beginning.action_number.Goals as goal

pub returns : goal.returns
returns c = (omega arith, never_large _ _ c.code_at-a.ensures c.if-a-lt1048576.false)
