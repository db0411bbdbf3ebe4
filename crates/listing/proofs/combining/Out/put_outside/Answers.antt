use native.Mathlib.Omega.{arith}
use Rattle.listing.proofs.Writing.{putting_start, putting_pass, putting_lost, putting_next, putting_ends, outside_in, outside_out, outside_end}
use Rattle.listing.proofs.combining.Out.put_outside.Goals as goal

pub loop-a-init : goal.loop-a-init
loop-a-init g c = λ q f. putting_start _ _ (omega arith)

pub loop-a-preserved-then-test : goal.loop-a-preserved-then-test
loop-a-preserved-then-test g c = λ q f. putting_pass (c.loop-a.invariant q f) (outside_in _ _ c.loop-a-test.true q (f _ _ (omega (arith, c.type_inv.from c.loop-a.a-index)) c.if-test.ensures))

pub returns-in_err-put : goal.returns-in_err-put
returns-in_err-put g c = λ q f. rw c.from_residual.ensures (putting_lost (c.loop-a.invariant q f) _ (outside_out _ _ c.loop-a-test.true q (f _ _ (omega (arith, c.type_inv.from c.loop-a.a-index)) c.if-test.ensures)) c.in_err-put.ensures)

pub loop-a-preserved : goal.loop-a-preserved
loop-a-preserved g c = λ q f. putting_next (c.loop-a.invariant q f) _ (outside_out _ _ c.loop-a-test.true q (f _ _ (omega (arith, c.type_inv.from c.loop-a.a-index)) c.if-test.ensures)) c.in_ok-put.ensures

pub returns : goal.returns
returns g c = λ q f. putting_ends (c.loop-a.invariant q f) _ (outside_end _ _ c.loop-a-test.false q)
