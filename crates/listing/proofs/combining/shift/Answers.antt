use Rattle.listing.proofs.Copying.{copied_all}
use native.Mathlib.Omega.{arith}
use Rattle.listing.proofs.combining.shift.Goals as goal

pub returns : goal.returns
returns c = let v = c.loop-i.invariant in (v.0, copied_all c.args.b c.args.e c.loop-i.i c.loop-i.acts c.args.acts.now (omega arith) c.requires.0 c.requires.1 v.0 (λ j lt. v.1 j lt))
