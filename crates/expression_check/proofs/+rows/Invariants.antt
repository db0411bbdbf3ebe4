use Prim.Native.Nat.{◌-◌}
use lib.ListN.{length}
use Rattle.eb3.specs.ExpressionReading.{read_data, read_cond}
use Rattle.expression_check.specs.Scoping.{scope}
use Rattle.expression_check.proofs.RowCases.{Going}
use Rattle.expression_check.proofs.+rows.Given as goal

abbrev pub decreases-cond_row : goal.decreases-cond_row
decreases-cond_row l = length l.s.now

abbrev pub decreases-data_row : goal.decreases-data_row
decreases-data_row l = length l.s.now

abbrev pub invariant-cond_row-loop-more : goal.invariant-cond_row-loop-more
invariant-cond_row-loop-more l = Going (read_cond (scope l.c)) l.s l.n l.at l.more

abbrev pub decreases-cond_row-loop-more : goal.decreases-cond_row-loop-more
decreases-cond_row-loop-more l = length l.s - l.at

abbrev pub invariant-data_row-loop-more : goal.invariant-data_row-loop-more
invariant-data_row-loop-more l = Going (read_data (scope l.c)) l.s l.n l.at l.more

abbrev pub decreases-data_row-loop-more : goal.decreases-data_row-loop-more
decreases-data_row-loop-more l = length l.s - l.at
