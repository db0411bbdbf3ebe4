use native.Mathlib.Omega.{arith}
use mathlib.Core.Path.{◌≡◌}
use Rattle.std.specs.Prelude.{Err}
use Rattle.eb3.specs.Reading.{repeat}
use Rattle.eb3.specs.ExpressionReading.{read_data, read_cond}
use Rattle.words.specs.Checking.{checked}
use Rattle.expression_check.specs.Scoping.{scope}
use Rattle.expression_check.proofs.RowCases.{rows}
use Rattle.expression_check.proofs.+rows.Goals as goal

pub cond_row-loop-more-preserved : goal.cond_row-loop-more-preserved
cond_row-loop-more-preserved t c = let a = c.in_ok-b.was in let b = c.in_ok-left-in-Other.was in search rows

pub cond_row-returns-in_err-left-in-Other : goal.cond_row-returns-in_err-left-in-Other
cond_row-returns-in_err-left-in-Other t c = let a = c.in_ok-b.was in let b = c.in_err-left-in-Other.was in let h : Err c.in_err-left-in-Other.field-0.0 ≡ checked (repeat c.args.n (read_cond (scope c.args.c)) c.args.s.now) = search rows in grind arith

pub data_row-loop-more-preserved : goal.data_row-loop-more-preserved
data_row-loop-more-preserved t c = let a = c.in_ok-b.was in let b = c.in_ok-left-in-Other.was in search rows

pub data_row-returns-in_err-left-in-Other : goal.data_row-returns-in_err-left-in-Other
data_row-returns-in_err-left-in-Other t c = let a = c.in_ok-b.was in let b = c.in_err-left-in-Other.was in let h : Err c.in_err-left-in-Other.field-0.0 ≡ checked (repeat c.args.n (read_data (scope c.args.c)) c.args.s.now) = search rows in grind arith
