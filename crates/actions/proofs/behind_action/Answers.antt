use native.Mathlib.Omega.{arith}
use mathlib.Core.Path.{◌≡◌, refl}
use Prim.Native.Nat.{◌+◌, ◌*◌, ◌-◌}
use lib.ListN.{length}
use Rattle.actions.proofs.Cases.{behind_left}
use Rattle.actions.proofs.behind_action.Goals as goal

pub returns-then-n-t : goal.returns-then-n-t
returns-then-n-t c = behind_left _ _ _ c.arguments.ensures.1 refl

pub returns-else-n-t : goal.returns-else-n-t
returns-else-n-t c =
    let e : 0 ≡ length c.args.t.now - (1 + 2 * c.arguments.result) = omega arith in
    behind_left _ _ _ c.arguments.ensures.1 e
