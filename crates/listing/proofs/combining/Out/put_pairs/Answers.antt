use native.Mathlib.Omega.{arith}
use mathlib.Core.Bool.{not}
use Rattle.std.proofs.Math.Dec.{eqb}
use lib.ListN.{get_or}
use Rattle.std.proofs.Common.{rules}
use Rattle.listing.proofs.Writing.{putting_start, putting_pass, putting_lost, putting_next, putting_ends, pairs_in, pairs_out, pairs_end, puts_equal}
use Rattle.listing.proofs.combining.Out.put_pairs.Goals as goal
use Rattle.listing.proofs.combining.Out.put_pairs.Goals.{then-in_set+in_ok-put_outside, else-in_set}

pub loop-x-init : goal.loop-x-init
loop-x-init c = putting_start _ _ (omega arith)

pub returns-in_err-put_outside : goal.returns-in_err-put_outside
returns-in_err-put_outside c = rw c.from_residual.ensures (putting_lost c.loop-x.invariant _ (pairs_in _ _ c.loop-x-test.true _ _ c.if-in_set.ensures) (puts_equal _ _ (c.in_err-put_outside.ensures (λ b. not (eqb b (get_or c.args.left.now c.loop-x.x-index 0))) (λ a b h p. search rules))))

pub loop-x-preserved : goal.loop-x-preserved
loop-x-preserved c = elim c.if-in_set.branch [
  | then-in_set+in_ok-put_outside w ↦ rw w.self-is (putting_next c.loop-x.invariant _ (pairs_in _ _ c.loop-x-test.true _ _ w.if-in_set.ensures) (puts_equal _ _ (w.in_ok-put_outside.ensures (λ b. not (eqb b (get_or c.args.left.now c.loop-x.x-index 0))) (λ a b h p. search rules))))
  | else-in_set w ↦ rw w.self-is (putting_pass c.loop-x.invariant (pairs_out _ _ c.loop-x-test.true _ _ w.if-in_set.ensures))
]

pub returns : goal.returns
returns c = putting_ends c.loop-x.invariant _ (pairs_end _ _ c.loop-x-test.false _ _)
