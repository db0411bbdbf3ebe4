use mathlib.Core.Path.{◌≡◌}
use Rattle.std.specs.Prelude.{Err}
use native.Mathlib.Omega.{arith}
use Rattle.words.specs.Checking.{checked}
use Rattle.eb3.specs.RuleReading.{arguments_of}
use Rattle.tables.specs.Tables.{declared}
use Rattle.tables.proofs.Rounds.{argument_refused, argument_passed}
use Rattle.tables.proofs.check_arguments.Goals as goal

pub loop-d-preserved : goal.loop-d-preserved
loop-d-preserved c = let e = c.in_ok-n.was in search argument_passed

pub returns-in_err-n : goal.returns-in_err-n
returns-in_err-n c =
    let e = c.in_err-n.was in
    let h : Err c.in_err-n.field-0.0 ≡ checked (arguments_of (declared c.args.tb.now) c.args.vars.now c.args.ds.now c.args.t.now) = search argument_refused in
    grind arith
