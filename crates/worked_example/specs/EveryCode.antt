-- A rule set on bytes that uses every code of document 01 (0 to 13 and 20 to 29 in its words, 30 in a running term), executed: its figures worked out by
-- hand, and one run with visible, internal and refused numbers, its cells at the end ("Blocks and the rule stream", "Unfolding, size and breadth",
-- "Moves", "Memory") and its table by reader (document 02, K1).
use Rattle.std.specs.Prelude.{◌≡◌, refl, ℕ, ◌/◌, ◌%◌, take, drop}
use mathlib.Core.List.{List, [], ◌∷◌, ◌++◌}
use Rattle.std.proofs.Math.ListN.{replicate}
use Rattle.eb3.specs.Generic.Lists.{same_list, concat_map}
use Rattle.eb3.specs.Values.{encode, decode, bounded, add, subtract, equal, less}
use Rattle.eb3.specs.Expressions.{Data, Undefined, Constant, Variable, Add, Subtract, If, Now, Before, Nil, Cons, Equal, Less, And, Or, Not, True, variables, evaluate_data}
use Rattle.eb3.specs.Terms.{visible, bit, in_mask, done?, same_action}
use Rattle.eb3.specs.Moves.{moves, first_with}
use Rattle.eb3.specs.Derivations.{state_after}
use Rattle.eb3.specs.Attributes.{function, apply_in_domain, evaluate, guard_holds, now_below, before_values, attribute_value, value_at}
use Rattle.eb3.specs.Cells.{cell_count, cell_index, offset, cell_at, concat_tabulate, tabulate, cells_up_to, initial_cells, renew, values_up_to}
use Rattle.eb3.specs.TransitionSystems.{step as machine_step, run as machine_run, outcomes, tally}
use Rattle.eb3.specs.Machines.{history_run, history_outcomes}
use Rattle.eb3.specs.Sizes.{cond_size, arguments_size, size, reach, breadth, zero_mask, parallel_breadth}
use Rattle.eb3.specs.Editions.{edition_1, edition_of}
use Rattle.eb3.specs.RuleSets.{constant_argument, variable_argument, RuleTerm, rule_internal, rule_perform, rule_sequence, rule_choice, rule_star, rule_parallel, rule_guard, choice_over, parallel_over, call, Function, Process, RuleSet}
use Rattle.eb3.specs.Unfolding.{argument_value, instantiate_cond, right_nest, unfold_term, unfold_below, unfold_main}
use Rattle.eb3.specs.Spelling.{number_words, data_words, arguments_words, words}
use Rattle.eb3.specs.RuleSpelling.{argument_words, rule_words, function_words, functions_words, process_words, rules_words, stream_words}
use Rattle.eb3.specs.Reading.{giving, then, both, number_of, by_number, count_of, repeat, counted, for_each, series, number_in}
use Rattle.eb3.specs.ExpressionReading.{constant_of, args_of, readers, read_data, read_cond}
use Rattle.eb3.specs.TermReading.{mask_of, element_of, elements_of, action_of, terms, read_term, given_term, given_event}
use Rattle.eb3.specs.RuleReading.{read_parameter_counts, read_function, read_functions, argument_of, arguments_of, rule_action_of, call_of, choice_over_of, parallel_over_of, rule_terms, read_rule_term, read_process, read_processes, read_rules}
use Rattle.eb3.specs.Bytes.{words_in, bytes_of, doubles_in, double_words, written}
use Rattle.eb3.specs.Memory.{memory_words, cells_in}
use Rattle.eb3.specs.Readers.{numbers_of, readers_of, all_read, lets_through, at_reader, counts_from, sums, increased}
use Rattle.eb3.specs.Answers.{refused, answered, and_then, Ran, Tabled}
use Rattle.eb3.specs.Blocks.{sums_from, block_right, blocks_right, contents, edition_in, open_blocks}
use Rattle.eb3.specs.Files.{block_of, blocks_from, file_of}
use Rattle.eb3.specs.Admission.{all_zero, ended, within_limits, admission}
use Rattle.eb3.specs.Operations.{admit, start, count, move, present, run}
use Rattle.eb3.specs.Demands.{cut}

-- Three domains, of 1, 2 and 3 elements. 19 labels: 1 has a parameter of domain 1; 17 has two, of domains 1 and 2; 18 two, of domains 2 and 1.
abbrev labels : List (List ℕ)
labels = [] ∷ (1 ∷ []) ∷ (replicate 15 [] ++ ((1 ∷ 2 ∷ []) ∷ (2 ∷ 1 ∷ []) ∷ []))

-- At element x (variable 0): before's value.
abbrev kept : ℕ → Data
kept f = Before f (Cons (Variable 0) Nil)

-- Function 0, over domain 1. Start: undefined at 0, 5 at 1. Label 1 (k) adds 1 at k; label 17 (k, m) subtracts m at k; else before.
abbrev level : Function
level = record {
  parameters = 1 ∷ [];
  at_start = If (Less (Variable 0) (Constant 1)) Undefined (Constant 5);
  at_label = kept 0
      ∷ If (And (Equal (Variable 0) (Variable 1)) True) (Add (kept 0) (Constant 1)) (kept 0)
      ∷ (replicate 15 (kept 0)
      ++ (If (Or (Equal (Variable 0) (Variable 1)) (Not True)) (Subtract (kept 0) (Variable 2)) (kept 0) ∷ kept 0 ∷ []));
}

-- Function 1, over domain 2. Start: function 0's value at the same number, which is outside its domain at 2. Label 17 (k, m): at m function 0's new value at k.
abbrev seen : Function
seen = record {
  parameters = 2 ∷ [];
  at_start = Now 0 (Cons (Variable 0) Nil);
  at_label = kept 1 ∷ kept 1 ∷ (replicate 15 (kept 1) ++ (If (Equal (Variable 0) (Variable 2)) (Now 0 (Cons (Variable 1) Nil)) (kept 1) ∷ kept 1 ∷ []));
}

abbrev mask_zero : List ℕ
mask_zero = 0 ∷ 0 ∷ 0 ∷ 0 ∷ []

-- Bits 1 and 2 of mask word 1: labels 17 and 18.
abbrev mask_17 : List ℕ
mask_17 = 0 ∷ 2 ∷ 0 ∷ 0 ∷ []

abbrev mask_18 : List ℕ
mask_18 = 0 ∷ 4 ∷ 0 ∷ 0 ∷ []

-- Process 0 (k of domain 1): the star of 1 (k) under a guard.
abbrev counting : Process
counting = record { parameters = 1 ∷ []; term = rule_star (rule_guard (Less (Now 0 (Cons (Variable 0) Nil)) (Constant 7)) (rule_perform 1 (variable_argument 0 ∷ []))) }

-- Process 1 (k of domain 1, m of domain 2): 17 (k, m), then process 0.
abbrev servicing : Process
servicing = record { parameters = 1 ∷ 2 ∷ []; term = rule_sequence (rule_perform 17 (variable_argument 0 ∷ variable_argument 1 ∷ [])) (call 0 (variable_argument 0 ∷ [])) }

-- Process 2: a choice of internal, the star of 18 (2, 1), and internal.
abbrev ending : Process
ending = record { parameters = []; term = rule_choice (rule_choice rule_internal (rule_star (rule_perform 18 (constant_argument 2 ∷ constant_argument 1 ∷ [])))) rule_internal }

-- Main: process 1 for both keys, mask zero; beside it, on label 17, two sides that meet on label 18, each quantified over the domain of one element.
abbrev main_term : RuleTerm
main_term = rule_parallel mask_17
    (parallel_over 1 mask_zero (call 1 (variable_argument 0 ∷ constant_argument 2 ∷ [])))
    (rule_parallel mask_18
    (parallel_over 0 mask_zero (rule_sequence (choice_over 2 (rule_perform 17 (constant_argument 1 ∷ variable_argument 1 ∷ []))) (rule_guard True (call 2 []))))
    (choice_over 0 (rule_guard True (call 2 []))))

abbrev rule_set : RuleSet
rule_set = record {
  edition = edition_1;
  domains = 1 ∷ 2 ∷ 3 ∷ [];
  labels = labels;
  functions = level ∷ seen ∷ [];
  processes = counting ∷ servicing ∷ ending ∷ record { parameters = []; term = main_term } ∷ [];
}

-- Its stream, word by word: 330 words, so two blocks of 254.
abbrev stream_of_words : List ℕ
stream_of_words =
    -- Edition 1, two blocks; three domains, of 1, 2 and 3 elements.
    1 ∷ 2 ∷
    3 ∷ 1 ∷ 2 ∷ 3 ∷
    -- 19 labels: 0 without parameters, 1 of domain 1, 2 to 16 without, 17 of domains 1 and 2, 18 of domains 2 and 1.
    19 ∷ 0 ∷ 1 ∷ 1 ∷ 0 ∷ 0 ∷ 0 ∷ 0 ∷ 0 ∷ 0 ∷ 0 ∷ 0 ∷ 0 ∷ 0 ∷ 0 ∷ 0 ∷ 0 ∷ 0 ∷ 0 ∷ 2 ∷ 1 ∷ 2 ∷ 2 ∷ 2 ∷ 1 ∷
    -- Two functions. Function 0: its domain, the empty trace, labels 0, 1, 2 to 16 (before), 17, 18.
    2 ∷
    1 ∷
    5 ∷ 9 ∷ 2 ∷ 0 ∷ 1 ∷ 1 ∷ 0 ∷ 1 ∷ 5 ∷
    7 ∷ 0 ∷ 2 ∷ 0 ∷
    5 ∷ 10 ∷ 8 ∷ 2 ∷ 0 ∷ 2 ∷ 1 ∷ 13 ∷ 3 ∷ 7 ∷ 0 ∷ 2 ∷ 0 ∷ 1 ∷ 1 ∷ 7 ∷ 0 ∷ 2 ∷ 0 ∷
    7 ∷ 0 ∷ 2 ∷ 0 ∷ 7 ∷ 0 ∷ 2 ∷ 0 ∷ 7 ∷ 0 ∷ 2 ∷ 0 ∷ 7 ∷ 0 ∷ 2 ∷ 0 ∷ 7 ∷ 0 ∷ 2 ∷ 0 ∷ 7 ∷ 0 ∷ 2 ∷ 0 ∷ 7 ∷ 0 ∷ 2 ∷ 0 ∷ 7 ∷ 0 ∷ 2 ∷ 0 ∷
    7 ∷ 0 ∷ 2 ∷ 0 ∷ 7 ∷ 0 ∷ 2 ∷ 0 ∷ 7 ∷ 0 ∷ 2 ∷ 0 ∷ 7 ∷ 0 ∷ 2 ∷ 0 ∷ 7 ∷ 0 ∷ 2 ∷ 0 ∷ 7 ∷ 0 ∷ 2 ∷ 0 ∷ 7 ∷ 0 ∷ 2 ∷ 0 ∷
    5 ∷ 11 ∷ 8 ∷ 2 ∷ 0 ∷ 2 ∷ 1 ∷ 12 ∷ 13 ∷ 4 ∷ 7 ∷ 0 ∷ 2 ∷ 0 ∷ 2 ∷ 2 ∷ 7 ∷ 0 ∷ 2 ∷ 0 ∷
    7 ∷ 0 ∷ 2 ∷ 0 ∷
    -- Function 1, likewise.
    2 ∷
    6 ∷ 0 ∷ 2 ∷ 0 ∷
    7 ∷ 1 ∷ 2 ∷ 0 ∷
    7 ∷ 1 ∷ 2 ∷ 0 ∷
    7 ∷ 1 ∷ 2 ∷ 0 ∷ 7 ∷ 1 ∷ 2 ∷ 0 ∷ 7 ∷ 1 ∷ 2 ∷ 0 ∷ 7 ∷ 1 ∷ 2 ∷ 0 ∷ 7 ∷ 1 ∷ 2 ∷ 0 ∷ 7 ∷ 1 ∷ 2 ∷ 0 ∷ 7 ∷ 1 ∷ 2 ∷ 0 ∷ 7 ∷ 1 ∷ 2 ∷ 0 ∷
    7 ∷ 1 ∷ 2 ∷ 0 ∷ 7 ∷ 1 ∷ 2 ∷ 0 ∷ 7 ∷ 1 ∷ 2 ∷ 0 ∷ 7 ∷ 1 ∷ 2 ∷ 0 ∷ 7 ∷ 1 ∷ 2 ∷ 0 ∷ 7 ∷ 1 ∷ 2 ∷ 0 ∷ 7 ∷ 1 ∷ 2 ∷ 0 ∷
    5 ∷ 8 ∷ 2 ∷ 0 ∷ 2 ∷ 2 ∷ 6 ∷ 0 ∷ 2 ∷ 1 ∷ 7 ∷ 1 ∷ 2 ∷ 0 ∷
    7 ∷ 1 ∷ 2 ∷ 0 ∷
    -- Four processes: 0, 1, 2 and main.
    4 ∷
    1 ∷ 1 ∷ 24 ∷ 26 ∷ 9 ∷ 6 ∷ 0 ∷ 2 ∷ 0 ∷ 1 ∷ 7 ∷ 21 ∷ 1 ∷ 2 ∷ 0 ∷
    2 ∷ 1 ∷ 2 ∷ 22 ∷ 21 ∷ 17 ∷ 2 ∷ 0 ∷ 2 ∷ 1 ∷ 29 ∷ 0 ∷ 2 ∷ 0 ∷
    0 ∷ 23 ∷ 23 ∷ 20 ∷ 24 ∷ 21 ∷ 18 ∷ 1 ∷ 2 ∷ 1 ∷ 1 ∷ 20 ∷
    0 ∷ 25 ∷ 0 ∷ 2 ∷ 0 ∷ 0 ∷
    28 ∷ 1 ∷ 0 ∷ 0 ∷ 0 ∷ 0 ∷ 29 ∷ 1 ∷ 2 ∷ 0 ∷ 1 ∷ 2 ∷
    25 ∷ 0 ∷ 4 ∷ 0 ∷ 0 ∷
    28 ∷ 0 ∷ 0 ∷ 0 ∷ 0 ∷ 0 ∷ 22 ∷ 27 ∷ 2 ∷ 21 ∷ 17 ∷ 1 ∷ 1 ∷ 2 ∷ 1 ∷ 26 ∷ 13 ∷ 29 ∷ 2 ∷
    27 ∷ 0 ∷ 26 ∷ 13 ∷ 29 ∷ 2 ∷ []

-- Words as bytes, low byte first.
abbrev as_bytes : List ℕ → List ℕ
as_bytes ws = concat_map (λ w. w % 256 ∷ w / 256 ∷ []) ws

-- The file: block 0 with its number and sums 188 and 158, block 1 with 157 and 159, 178 zeros after the last used word.
abbrev file : List ℕ
file = 0 ∷ 0 ∷ 188 ∷ 158 ∷ (as_bytes (take 254 stream_of_words) ++ (1 ∷ 0 ∷ 157 ∷ 159 ∷ (as_bytes (drop 254 stream_of_words) ++ as_bytes (replicate 178 0))))

-- The figures, part by part (size; G; W), larger operand of each maximum named:
--   1 (k): 4; 4; 1. Its guard, whose condition has 7 words: 12; 12 (size); 1. Process 0, the star: 13; 2 + 12 + 12 = 26; 2.
--   17 (k, m): 6; 6; 1. Process 1, the sequence: 20; the larger of 1 + 6 + 13 = 20 and 26, 26 (right); 2.
--   18 (2, 1): 6; 6; 1. Its star: 7; 2 + 6 + 6 = 14; 2. Internal or that: 9; 14 (right); 3. Process 2, that or internal: 11; 14 (left); 4.
--   Guard true, process 2: 13; 14 (operand); 4.
--   Choice over three elements: inner 13; 13 (size); 2; outer 20; 20 (size); 3.
--   In sequence with the guard: 34; the larger of 1 + 20 + 13 = 34 and 14, 34 (left); 4.
--   Parallel over two keys, mask zero: 5 + 20 + 20 = 45; 5 + 26 + 26 = 57; 2 + 2 = 4.
--   On label 18: 5 + 34 + 13 = 52; 5 + 34 + 14 = 53; 4 + 4 + 16 = 24.
--   Main, on label 17: 5 + 45 + 52 = 102; 5 + 57 + 53 = 115; 4 + 24 + 96 = 124. C is 2 + 3.
-- The run, from cells - 5 - 5 - (function 0, then function 1):
--   3: 17 (1, 2), the only pair; before it three internal moves. Cells - 3 - 5 3. Then 9 moves: internal and 1 (1) of the left, six internal, 18 (2, 1).
--   1: 1 (1), since 3 is less than 7. Cells - 4 - 5 3. The same 9 moves.
--   8: 18 (2, 1), both sides together. Cells kept. Then 5 moves: internal, 1 (1), internal, internal, 18 (2, 1).
--   5: refused. 0: internal, the left star ends.
--   The last term: 5 + (5 + 20 + 1) + (5 + 9 + 9) = 54.
-- Readers 1, 32, 1, 7 and 32: two visible at reader 1, one refused at 7, one visible and one internal at 32.
abbrev list : List ℕ
list = 3 ∷ 0 ∷ 1 ∷ 0 ∷ 1 ∷ 0 ∷ 32 ∷ 0 ∷ 8 ∷ 0 ∷ 1 ∷ 0 ∷ 5 ∷ 0 ∷ 7 ∷ 0 ∷ 0 ∷ 0 ∷ 32 ∷ 0 ∷ []

-- Buffers of the reported sizes and an odd byte more, filled with 7.
abbrev term_buffer : List ℕ
term_buffer = replicate 231 7

abbrev memory_buffer : List ℕ
memory_buffer = replicate 11 7

-- A table of 32 records and three bytes more. Reader 1's first number is 65,534, every other number 0.
abbrev table : List ℕ
table = 254 ∷ 255 ∷ (replicate 382 0 ++ (7 ∷ 7 ∷ 7 ∷ []))

abbrev ran : Tabled Ran
ran = run file list table term_buffer memory_buffer term_buffer memory_buffer

-- A running term in bytes, the last one: each word low byte first; 30 is done. Beside it the event 18 (2, 1) and the last memory's cells, - 4 - 5 3.
abbrev last_term : List ℕ
last_term =
    25 ∷ 0 ∷ 0 ∷ 0 ∷ 2 ∷ 0 ∷ 0 ∷ 0 ∷ 0 ∷ 0 ∷
    25 ∷ 0 ∷ 0 ∷ 0 ∷ 0 ∷ 0 ∷ 0 ∷ 0 ∷ 0 ∷ 0 ∷ 22 ∷ 0 ∷ 21 ∷ 0 ∷ 17 ∷ 0 ∷ 1 ∷ 0 ∷ 0 ∷ 0 ∷ 1 ∷ 0 ∷ 2 ∷ 0 ∷ 24 ∷ 0 ∷ 26 ∷ 0 ∷ 9 ∷ 0 ∷ 6 ∷ 0 ∷ 0 ∷ 0 ∷ 1 ∷ 0 ∷ 0 ∷ 0 ∷ 1 ∷ 0 ∷ 7 ∷ 0 ∷ 21 ∷ 0 ∷ 1 ∷ 0 ∷ 1 ∷ 0 ∷ 0 ∷ 0 ∷ 30 ∷ 0 ∷
    25 ∷ 0 ∷ 0 ∷ 0 ∷ 4 ∷ 0 ∷ 0 ∷ 0 ∷ 0 ∷ 0 ∷ 22 ∷ 0 ∷ 30 ∷ 0 ∷ 24 ∷ 0 ∷ 21 ∷ 0 ∷ 18 ∷ 0 ∷ 1 ∷ 0 ∷ 2 ∷ 0 ∷ 1 ∷ 0 ∷ 1 ∷ 0 ∷ 22 ∷ 0 ∷ 30 ∷ 0 ∷ 24 ∷ 0 ∷ 21 ∷ 0 ∷ 18 ∷ 0 ∷ 1 ∷ 0 ∷ 2 ∷ 0 ∷ 1 ∷ 0 ∷ 1 ∷ 0 ∷ []

abbrev event_18 : List ℕ
event_18 = 21 ∷ 0 ∷ 18 ∷ 0 ∷ 1 ∷ 0 ∷ 2 ∷ 0 ∷ 1 ∷ 0 ∷ 1 ∷ 0 ∷ []

abbrev last_memory : List ℕ
last_memory = 255 ∷ 255 ∷ 4 ∷ 0 ∷ 255 ∷ 255 ∷ 5 ∷ 0 ∷ 3 ∷ 0 ∷ []

pub record EveryCodeOnBytes : Type 0 where
  -- The words are the rule set's spelling, and the bytes its file.
  pub spelled : stream_words 2 rule_set ≡ stream_of_words
  pub file_is : file_of rule_set ≡ file
  pub figures : admit file ≡ answered (record { cells = 5; reach = 115; breadth = 124; size = 102 })
  -- Main's unfolding in words: both keys, then the side of the three choices, then the other.
  pub start_term : words_in (cut 102 (start file term_buffer memory_buffer).term)
      ≡ 25 ∷ 0 ∷ 2 ∷ 0 ∷ 0 ∷
      25 ∷ 0 ∷ 0 ∷ 0 ∷ 0 ∷
      22 ∷ 21 ∷ 17 ∷ 1 ∷ 0 ∷ 1 ∷ 2 ∷ 24 ∷ 26 ∷ 9 ∷ 6 ∷ 0 ∷ 1 ∷ 0 ∷ 1 ∷ 7 ∷ 21 ∷ 1 ∷ 1 ∷ 0 ∷
      22 ∷ 21 ∷ 17 ∷ 1 ∷ 1 ∷ 1 ∷ 2 ∷ 24 ∷ 26 ∷ 9 ∷ 6 ∷ 0 ∷ 1 ∷ 1 ∷ 1 ∷ 7 ∷ 21 ∷ 1 ∷ 1 ∷ 1 ∷
      25 ∷ 0 ∷ 4 ∷ 0 ∷ 0 ∷
      22 ∷ 23 ∷ 21 ∷ 17 ∷ 1 ∷ 1 ∷ 1 ∷ 0 ∷ 23 ∷ 21 ∷ 17 ∷ 1 ∷ 1 ∷ 1 ∷ 1 ∷ 21 ∷ 17 ∷ 1 ∷ 1 ∷ 1 ∷ 2 ∷ 26 ∷ 13 ∷ 23 ∷ 23 ∷ 20 ∷ 24 ∷ 21 ∷ 18 ∷ 1 ∷ 2 ∷ 1 ∷ 1 ∷ 20 ∷
      26 ∷ 13 ∷ 23 ∷ 23 ∷ 20 ∷ 24 ∷ 21 ∷ 18 ∷ 1 ∷ 2 ∷ 1 ∷ 1 ∷ 20 ∷ []
  pub start_memory : (start file term_buffer memory_buffer).memory ≡ 255 ∷ 255 ∷ 5 ∷ 0 ∷ 255 ∷ 255 ∷ 5 ∷ 0 ∷ 255 ∷ 255 ∷ 7 ∷ []
  pub run_answer : ran.written.answer ≡ answered (record { size = 54; visible = 3; internal = 1; refusals = 1 })
  pub run_memory : ran.written.memory ≡ 255 ∷ 255 ∷ 4 ∷ 0 ∷ 255 ∷ 255 ∷ 5 ∷ 0 ∷ 3 ∷ 0 ∷ 7 ∷ []
  -- The last term, zeros up to G, and the odd byte as it was.
  pub run_term : ran.written.term ≡ last_term ++ (replicate 122 0 ++ (7 ∷ []))
  -- Reader 1's first number, bytes 0 to 3, is 65,536. Reader 7's record begins at byte 72, its third number, from byte 80, is 1; reader 32's at byte 372, its
  -- first number and its second, from byte 376, are 1. Every other byte is as it was.
  pub run_table : ran.table ≡ 0 ∷ 0 ∷ 1 ∷ 0 ∷ (replicate 76 0 ++ (1 ∷ (replicate 291 0 ++ (1 ∷ 0 ∷ 0 ∷ 0 ∷ 1 ∷ (replicate 7 0 ++ (7 ∷ 7 ∷ 7 ∷ []))))))
  -- On the last term: the first key waits for a partner on 17, which is gone; the two sides of 18 end, one or the other, or do 18 together, which leads back
  -- to the term.
  pub counted : count file last_term last_memory ≡ answered 3
  pub moved : move file last_term last_memory 2 term_buffer memory_buffer
      ≡ record { answer = answered (record { action = visible (record { label = 18; arguments = 2 ∷ 1 ∷ [] }); size = 54 }); term = last_term ++ replicate 123 7; memory = last_memory ++ (7 ∷ []) }
  pub presented : present file last_term last_memory event_18 term_buffer memory_buffer ≡ move file last_term last_memory 2 term_buffer memory_buffer
  pub presented_internal : present file last_term last_memory (20 ∷ 0 ∷ []) term_buffer memory_buffer ≡ move file last_term last_memory 0 term_buffer memory_buffer
  -- 1 (0) is an event of the rule set, and not offered; 1 (2) is none.
  pub not_offered : present file last_term last_memory (21 ∷ 0 ∷ 1 ∷ 0 ∷ 1 ∷ 0 ∷ 0 ∷ 0 ∷ []) term_buffer memory_buffer ≡ record { answer = refused 12; term = term_buffer; memory = memory_buffer }
  pub stranger : present file last_term last_memory (21 ∷ 0 ∷ 1 ∷ 0 ∷ 1 ∷ 0 ∷ 2 ∷ 0 ∷ []) term_buffer memory_buffer ≡ record { answer = refused 11; term = term_buffer; memory = memory_buffer }
  pub no_term : count file (take 106 last_term) last_memory ≡ refused 10
  -- Its G: the first key's sequence 26, beside done 5 + 26 + 1 = 32; each sequence of done and the star of 18 the larger of 1 + 1 + 7 and 14, together
  -- 5 + 14 + 14 = 33; in all 5 + 32 + 33 = 70 words.
  pub enough : (move file last_term last_memory 2 (replicate 140 7) memory_buffer).answer ≡ answered (record { action = visible (record { label = 18; arguments = 2 ∷ 1 ∷ [] }); size = 54 })
  pub no_space : move file last_term last_memory 2 (replicate 139 7) memory_buffer ≡ record { answer = refused 9; term = replicate 139 7; memory = memory_buffer }

pub every_code_on_bytes : EveryCodeOnBytes
unfolding admit and_then admission open_blocks edition_in edition_of functions_words blocks_right block_right sums_from contents words_in ended all_zero within_limits file_of blocks_from block_of bytes_of stream_words rules_words function_words process_words rule_words argument_words data_words number_words giving then both number_of by_number count_of repeat counted for_each series number_in constant_of args_of readers read_data read_cond mask_of read_parameter_counts read_function read_functions argument_of arguments_of rule_action_of call_of choice_over_of parallel_over_of rule_terms read_rule_term read_process read_processes read_rules unfold_main unfold_below unfold_term right_nest argument_value instantiate_cond size reach breadth parallel_breadth zero_mask cond_size arguments_size offset cell_count function run written words arguments_words memory_words encode history_run machine_run machine_step moves done? in_mask bit same_action same_list state_after guard_holds value_at attribute_value before_values now_below apply_in_domain evaluate evaluate_data variables equal values_up_to tabulate concat_tabulate start less add subtract bounded initial_cells cells_up_to cell_at cell_index count move present decode cells_in given_term given_event read_term terms action_of elements_of element_of first_with renew numbers_of readers_of all_read lets_through at_reader counts_from sums increased doubles_in double_words history_outcomes outcomes tally
every_code_on_bytes = record {
  spelled = refl;
  file_is = refl;
  figures = refl;
  start_term = refl;
  start_memory = refl;
  run_answer = refl;
  run_memory = refl;
  run_term = refl;
  run_table = refl;
  counted = refl;
  moved = refl;
  presented = refl;
  presented_internal = refl;
  not_offered = refl;
  stranger = refl;
  no_term = refl;
  enough = refl;
  no_space = refl;
}
