-- Laws of reading functions: what is left is an end of the words.
-- Document 01, "Blocks and the rule stream", items 2 to 5; refusals 4 and 5.
use Rattle.std.specs.Prelude.{ℕ, List, length}
use Rattle.eb3.specs.Editions.{Edition}
use Rattle.eb3.specs.Reading.{both, number_of, repeat, for_each, series}
use Rattle.eb3.specs.ExpressionReading.{read_data}
use Rattle.eb3.specs.RuleReading.{count_for, at_start_scope, at_label_scope, function_from, read_function}
use Rattle.words.specs.Ends.{Ends}
use Rattle.words.specs.Laws.Checking.{giving_fine, both_ends, number_ends}
use Rattle.words.specs.Laws.Rows.{repeat_ends, for_each_ends, series_ends}
use Rattle.expression_check.specs.Laws.Reading.{data_ends}

module _ (L : Edition) (d : ℕ) (labels : List (List ℕ)) (counts : List ℕ) where
  pub function_ends : (i : ℕ) → Ends (read_function L d labels counts i)
  unfolding read_function
  function_ends i t =
      let parameters = repeat (count_for counts i) (number_of 5 d) in
      let start = read_data (at_start_scope L counts i) in
      let later = for_each labels (λ ds. read_data (at_label_scope L counts i (length ds))) in
      giving_fine function_from t (both parameters (both start later) t)
      (both_ends parameters (both start later) (repeat_ends (count_for counts i) (number_of 5 d) (number_ends 5 d))
      (both_ends start later (data_ends (at_start_scope L counts i)) (for_each_ends labels _ (λ ds. data_ends (at_label_scope L counts i (length ds))))) t)

  pub functions_end : (k i : ℕ) → Ends (series k i (read_function L d labels counts))
  functions_end k i = series_ends k i (read_function L d labels counts) function_ends
