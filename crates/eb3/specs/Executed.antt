-- Examples of document 01 on bytes, executed: the key cabinet's file, its figures and its run; each refusal from 1 to 8 on a file with one fault;
-- domain sizes 0, 64 and 65; ten and eleven copies of P11's choice.
use Rattle.std.specs.Prelude.{◌≡◌, refl, List, [], ◌∷◌, ◌++◌, ℕ, ◌-◌, length, set, take, drop, replicate}
use Rattle.eb3.specs.Generic.Lists.{same_list}
use Rattle.eb3.specs.Refusal
use Rattle.eb3.specs.Values.{encode, equal}
use Rattle.eb3.specs.Expressions.{variables, evaluate_data}
use Rattle.eb3.specs.Terms.{bit, in_mask, done?, same_action}
use Rattle.eb3.specs.Moves.{moves}
use Rattle.eb3.specs.Derivations.{state_after}
use Rattle.eb3.specs.Attributes.{function, apply_in_domain, evaluate, guard_holds, now_below, before_values, attribute_value, value_at}
use Rattle.eb3.specs.Cells.{cell_count, offset, concat_tabulate, tabulate, values_up_to}
use Rattle.eb3.specs.TransitionSystems.{step as machine_step, run as machine_run, outcomes, tally}
use Rattle.eb3.specs.Machines.{history_run, history_outcomes}
use Rattle.eb3.specs.Sizes.{cond_size, arguments_size, size, reach, breadth, zero_mask, parallel_breadth}
use Rattle.eb3.specs.Editions.{edition_1, edition_of}
use Rattle.eb3.specs.RuleSets.{constant_argument, RuleTerm, rule_internal, rule_perform, parallel_over, RuleSet}
use Rattle.eb3.specs.Unfolding.{argument_value, instantiate_cond, right_nest, unfold_term, unfold_below, unfold_main}
use Rattle.eb3.specs.Spelling.{number_words, data_words, arguments_words, words}
use Rattle.eb3.specs.RuleSpelling.{argument_words, rule_words, function_words, functions_words, process_words, rules_words, stream_words}
use Rattle.eb3.specs.Reading.{giving, then, both, number_of, by_number, count_of, repeat, counted, for_each, series, number_in}
use Rattle.eb3.specs.ExpressionReading.{constant_of, args_of, readers, read_data, read_cond}
use Rattle.eb3.specs.TermReading.{mask_of}
use Rattle.eb3.specs.RuleReading.{read_parameter_counts, read_function, read_functions, argument_of, arguments_of, rule_action_of, call_of, choice_over_of, parallel_over_of, rule_terms, read_rule_term, read_process, read_processes, read_rules}
use Rattle.eb3.specs.Bytes.{words_in, bytes_of, written, doubles_in, double_words}
use Rattle.eb3.specs.Memory.{memory_words}
use Rattle.eb3.specs.Answers.{Answer, refused, answered, and_then, Sizes, Ran, Tabled, untabled}
use Rattle.eb3.specs.Readers.{numbers_of, readers_of, all_read, lets_through, at_reader, counts_from, sums, increased}
use Rattle.eb3.specs.Blocks.{sums_from, block_right, blocks_right, contents, edition_in, open_blocks}
use Rattle.eb3.specs.Files.{block_of, blocks_from, file_of}
use Rattle.eb3.specs.Admission.{all_zero, ended, within_limits, admission}
use Rattle.eb3.specs.Operations.{admit, run}
use Rattle.eb3.specs.KeyCabinet.{cabinet_of, cabinet, copies}

-- The key cabinet's stream after its first two words: domains, labels, the function, main.
pub cabinet_words : rules_words cabinet
    ≡ 1 ∷ 2 ∷
    2 ∷ 1 ∷ 0 ∷ 1 ∷ 0 ∷
    1 ∷ 0 ∷ 1 ∷ 0 ∷ 5 ∷ 8 ∷ 2 ∷ 0 ∷ 2 ∷ 1 ∷ 1 ∷ 1 ∷ 7 ∷ 0 ∷ 2 ∷ 0 ∷ 5 ∷ 8 ∷ 2 ∷ 0 ∷ 2 ∷ 1 ∷ 1 ∷ 0 ∷ 7 ∷ 0 ∷ 2 ∷ 0 ∷
    1 ∷ 0 ∷ 28 ∷ 0 ∷ 0 ∷ 0 ∷ 0 ∷ 0 ∷ 24 ∷ 22 ∷ 26 ∷ 8 ∷ 6 ∷ 0 ∷ 2 ∷ 0 ∷ 1 ∷ 0 ∷ 21 ∷ 0 ∷ 2 ∷ 0 ∷ 21 ∷ 1 ∷ 2 ∷ 0 ∷ []
unfolding rules_words functions_words function_words process_words rule_words argument_words data_words number_words
cabinet_words = refl

abbrev cabinet_file : List ℕ
cabinet_file = file_of cabinet

-- One block of the given words.
abbrev words_file : List ℕ → List ℕ
words_file ws = blocks_from 0 1 (bytes_of (ws ++ replicate (254 - length ws) 0))

-- A rule set of two labels, the second with a parameter, over one domain, main being one term.
abbrev main_alone : ℕ → RuleTerm → RuleSet
main_alone elements E = record {
  edition = edition_1;
  domains = elements ∷ [];
  labels = [] ∷ (0 ∷ []) ∷ [];
  functions = [];
  processes = record { parameters = []; term = E } ∷ [];
}

abbrev admit_main : ℕ → RuleTerm → Answer Sizes
admit_main elements E = admit (file_of (main_alone elements E))

-- Buffers of the reported sizes, filled with 7.
abbrev term_buffer : List ℕ
term_buffer = replicate 154 7

abbrev memory_buffer : List ℕ
memory_buffer = replicate 5 7

-- A table of 32 records, every number 4,294,967,295, and four bytes after them.
abbrev table : List ℕ
table = replicate 388 255

abbrev ran_by : List ℕ → List ℕ → Tabled Ran
ran_by list lent = run cabinet_file list lent term_buffer memory_buffer term_buffer memory_buffer

-- Numbers 1 at reader 2 and 9 at reader 32, and an odd last byte.
abbrev session : Tabled Ran
session = ran_by (1 ∷ 0 ∷ 2 ∷ 0 ∷ 9 ∷ 0 ∷ 32 ∷ 0 ∷ 3 ∷ []) table

pub record ExamplesOnBytes : Type 0 where
  -- Block 0 begins with its number and its sums.
  pub block_header : take 6 cabinet_file ≡ 0 ∷ 0 ∷ 233 ∷ 33 ∷ 1 ∷ 0 ∷ []
  -- C 2, G 77, W 4, start size 41.
  pub figures : admit cabinet_file ≡ answered (record { cells = 2; reach = 77; breadth = 4; size = 41 })
  -- One fault each: no whole block; a content byte changed; a later edition; a wrong count of blocks; a word after the end; a domain of 65;
  -- a label that is not there; an element outside the domain; main too large; main too broad.
  pub length_fault : admit (drop 1 cabinet_file) ≡ refused Refusal.length
  pub block_fault : admit (set cabinet_file 100 9) ≡ refused Refusal.block
  pub edition_fault : admit (words_file (2 ∷ 1 ∷ rules_words cabinet)) ≡ refused Refusal.edition
  pub count_fault : admit (words_file (1 ∷ 2 ∷ rules_words cabinet)) ≡ refused Refusal.edition
  pub end_fault : admit (words_file (1 ∷ 1 ∷ (rules_words cabinet ++ (5 ∷ [])))) ≡ refused Refusal.form
  pub form_fault : admit (file_of (cabinet_of 65)) ≡ refused Refusal.form
  pub reference_fault : admit_main 2 (rule_perform 2 []) ≡ refused Refusal.reference
  pub kind_fault : admit_main 2 (rule_perform 1 (constant_argument 2 ∷ [])) ≡ refused Refusal.kind
  pub form_before_kind : admit_main 2 (rule_perform 1 (constant_argument 65535 ∷ [])) ≡ refused Refusal.form
  pub size_fault : admit_main 64 (parallel_over 0 (replicate 4 0) (parallel_over 0 (replicate 4 0) rule_internal)) ≡ refused Refusal.size
  pub breadth_fault : admit (file_of (copies 11)) ≡ refused Refusal.breadth
  pub ten_copies : admit (file_of (copies 10)) ≡ answered (record { cells = 0; reach = 95; breadth = 59048; size = 95 })
  -- Domain size 64 passes, 0 and 65 don't.
  pub size_64 : admit (file_of (cabinet_of 64)) ≡ answered (record { cells = 64; reach = 2619; breadth = 128; size = 1467 })
  pub size_0 : admit (file_of (cabinet_of 0)) ≡ refused Refusal.form
  -- The printed session's run: one move taken, one number refused; an odd last byte of a buffer is kept.
  pub run_answer : session.written.answer ≡ answered (record { size = 48; visible = 1; internal = 0; refusals = 1 })
  pub run_memory : session.written.memory ≡ 1 ∷ 0 ∷ 0 ∷ 0 ∷ 7 ∷ []
  -- Reader 2's first number and reader 32's third are one more, and so 0; no other byte changes.
  pub run_table : session.table ≡ replicate 12 255 ++ (replicate 4 0 ++ (replicate 364 255 ++ (replicate 4 0 ++ replicate 4 255)))
  -- Refused 13: a reader missing, 0 or 33, at the last place too; a table of 31 records. With a short buffer, 9.
  pub reader_missing : ran_by (1 ∷ 0 ∷ 2 ∷ 0 ∷ 9 ∷ 0 ∷ []) table ≡ untabled table term_buffer memory_buffer Refusal.reader
  pub reader_0 : ran_by (1 ∷ 0 ∷ 0 ∷ 0 ∷ []) table ≡ untabled table term_buffer memory_buffer Refusal.reader
  pub reader_33 : ran_by (1 ∷ 0 ∷ 2 ∷ 0 ∷ 9 ∷ 0 ∷ 33 ∷ 0 ∷ []) table ≡ untabled table term_buffer memory_buffer Refusal.reader
  pub records_31 : ran_by [] (replicate 383 255) ≡ untabled (replicate 383 255) term_buffer memory_buffer Refusal.reader
  pub space_first : run cabinet_file (1 ∷ 0 ∷ 0 ∷ 0 ∷ []) table [] memory_buffer term_buffer memory_buffer ≡ untabled table [] memory_buffer Refusal.space

pub examples_on_bytes : ExamplesOnBytes
unfolding admit and_then admission open_blocks edition_in edition_of functions_words blocks_right block_right sums_from contents words_in ended all_zero within_limits file_of blocks_from block_of bytes_of stream_words rules_words function_words process_words rule_words argument_words data_words number_words giving then both number_of by_number count_of repeat counted for_each series number_in constant_of args_of readers read_data read_cond mask_of read_parameter_counts read_function read_functions argument_of arguments_of rule_action_of call_of choice_over_of parallel_over_of rule_terms read_rule_term read_process read_processes read_rules unfold_main unfold_below unfold_term right_nest argument_value instantiate_cond size reach breadth parallel_breadth zero_mask cond_size arguments_size offset cell_count function run written words arguments_words memory_words encode history_run machine_run machine_step moves done? in_mask bit same_action same_list state_after guard_holds value_at attribute_value before_values now_below apply_in_domain evaluate evaluate_data variables equal values_up_to tabulate concat_tabulate numbers_of readers_of all_read lets_through at_reader counts_from sums increased doubles_in double_words history_outcomes outcomes tally
examples_on_bytes = record {
  block_header = refl;
  figures = refl;
  length_fault = refl;
  block_fault = refl;
  edition_fault = refl;
  count_fault = refl;
  end_fault = refl;
  form_fault = refl;
  reference_fault = refl;
  kind_fault = refl;
  form_before_kind = refl;
  size_fault = refl;
  breadth_fault = refl;
  ten_copies = refl;
  size_64 = refl;
  size_0 = refl;
  run_answer = refl;
  run_memory = refl;
  run_table = refl;
  reader_missing = refl;
  reader_0 = refl;
  reader_33 = refl;
  records_31 = refl;
  space_first = refl;
}
