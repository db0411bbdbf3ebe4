use native.Mathlib.Omega.{arith}
use borrow.Author.Rules.{rules}
use Rattle.expression_check.proofs.Cases.{cond_refused, cond_compare, cond_low, cond_join}
use Rattle.expression_check.proofs.cond_front.Goals as goal
use Rattle.expression_check.proofs.cond_front.Goals.{in_default-via-then-w-lt8, in_default-via-else-w-lt8+else-w-lt10}

pub returns-in_err-w : goal.returns-in_err-w
returns-in_err-w c = cond_refused _ _ _ _ _ _ c.from_residual.ensures c.in_err-w.ensures.coded

pub returns-in-8-to-9 : goal.returns-in-8-to-9
returns-in-8-to-9 c = cond_compare _ _ _ _ c.requires _ _ c.in_ok-w.ensures.coded (omega arith) (omega arith)

pub returns-in_default : goal.returns-in_default
returns-in_default c =
    elim c.in_default.branch [
      | in_default-via-then-w-lt8 v ↦ cond_low _ _ _ _ c.requires _ c.in_ok-w.ensures.coded (omega arith)
      | in_default-via-else-w-lt8+else-w-lt10 v ↦ cond_join _ _ _ _ c.requires _ c.in_ok-w.ensures.coded (search rules) (omega arith)
    ]
