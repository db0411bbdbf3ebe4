-- A rule set as the words of its stream (document 01, "Blocks and the rule stream", items 1 to 5).
use Rattle.std.specs.Prelude.{List, [], ◌∷◌, ◌++◌, map, ℕ, length}
use Rattle.eb3.specs.Generic.Lists.{concat_map}
use Rattle.eb3.specs.Editions.{Edition}
use Rattle.eb3.specs.RuleSets.{Argument, constant_argument, variable_argument, RuleTerm, rule_internal, rule_perform, rule_sequence, rule_choice, rule_star, rule_parallel, rule_guard, choice_over, parallel_over, call, Function, Process, RuleSet}
use Rattle.eb3.specs.Reading.{pick}
use Rattle.eb3.specs.Spelling.{number_words, data_words, cond_words}

-- One number in one word; and the words of a list, its length before its entries.
abbrev pub one_word : ℕ → List ℕ
one_word n = n ∷ []

abbrev pub counted_words : {A : Type 0} → (A → List ℕ) → List A → List ℕ
counted_words spell xs = length xs ∷ concat_map spell xs

module _ (width : ℕ) where
  unfoldable pub argument_words : Argument → List ℕ
  argument_words (constant_argument v) = 1 ∷ number_words width v
  argument_words (variable_argument i) = 2 ∷ i ∷ []

  unfoldable pub rule_words : RuleTerm → List ℕ
  rule_words rule_internal = 20 ∷ []
  rule_words (rule_perform l rs) = 21 ∷ l ∷ concat_map argument_words rs
  rule_words (rule_sequence E F) = 22 ∷ (rule_words E ++ rule_words F)
  rule_words (rule_choice E F) = 23 ∷ (rule_words E ++ rule_words F)
  rule_words (rule_star E) = 24 ∷ rule_words E
  rule_words (rule_parallel Δ E F) = 25 ∷ (Δ ++ (rule_words E ++ rule_words F))
  rule_words (rule_guard C E) = 26 ∷ (cond_words width C ++ rule_words E)
  rule_words (choice_over d E) = 27 ∷ d ∷ rule_words E
  rule_words (parallel_over d Δ E) = 28 ∷ d ∷ (Δ ++ rule_words E)
  rule_words (call p rs) = 29 ∷ p ∷ concat_map argument_words rs

  -- A function: its parameters' domains, its expression for the empty trace, one per label.
  unfoldable pub function_words : Function → List ℕ
  function_words F = concat_map one_word F.parameters ++ (data_words width F.at_start ++ concat_map (data_words width) F.at_label)

  -- A process: the number of its parameters, their domains, its term.
  unfoldable pub process_words : Process → List ℕ
  process_words P = counted_words one_word P.parameters ++ rule_words P.term

abbrev pub parameter_count : Function → ℕ
parameter_count F = length F.parameters

abbrev pub counts_words : Edition → List ℕ → List ℕ
counts_words L counts = pick L.counts_written counts []

-- The functions after their count; between the two, where the edition writes them (edition 1 does not), all their parameter counts.
unfoldable pub functions_words : Edition → List Function → List ℕ
functions_words L Fs = length Fs ∷ (counts_words L (map parameter_count Fs) ++ concat_map (function_words L.width) Fs)

-- Domains, labels, functions, processes.
unfoldable pub rules_words : RuleSet → List ℕ
rules_words R =
    counted_words one_word R.domains
    ++ (counted_words (counted_words one_word) R.labels
    ++ (functions_words R.edition R.functions
    ++ counted_words (process_words R.edition.width) R.processes))

-- The stream of a file of n blocks, up to its last used word.
unfoldable pub stream_words : ℕ → RuleSet → List ℕ
stream_words n R = R.edition.number ∷ n ∷ rules_words R
