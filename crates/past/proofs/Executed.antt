-- Request K10 (document 02) on bytes, executed. The key cabinet: two histories of different lengths and events with the same end, and the same list
-- after both, with what the tables then hold (request K1). Then, that what the request asks of two histories is needed: with equal values and another term,
-- or with an equal term and another value, later moves differ.
use Rattle.std.specs.Prelude.{◌≡◌, refl, T, replicate}
use Rattle.std.proofs.Math.Path.{sym}
use Rattle.std.proofs.Common.{◌∙◌}
use mathlib.Core.List.{List, [], ◌∷◌}
use Prim.Native.Nat.{ℕ, zero, suc, ◌<◌}
use native.Mathlib.Omega.{arith}
use Rattle.eb3.specs.Generic.Lists.{same_list, Within}
use Rattle.eb3.specs.Values.{Value, number, encode, decode, bounded, equal}
use Rattle.eb3.specs.Expressions.{Constant, Variable, Now, Before, Nil, Cons, Equal, variables, evaluate_data}
use Rattle.eb3.specs.Terms.{Done, Sequence, Parallel, bit, in_mask, done?, same_action}
use Rattle.eb3.specs.Moves.{moves}
use Rattle.eb3.specs.Derivations.{state_after}
use Rattle.eb3.specs.Attributes.{function, domain, apply_in_domain, evaluate, guard_holds, now_below, before_values, attribute_value, value_at}
use Rattle.eb3.specs.Cells.{cell_count, cell_index, offset, cell_at, concat_tabulate, tabulate, values_up_to}
use Rattle.eb3.specs.TransitionSystems.{step as machine_step, run as machine_run, outcomes, tally}
use Rattle.eb3.specs.Semantics.{Sem_T}
use Rattle.eb3.specs.Machines.{Machine, history_run, history_outcomes}
use Rattle.eb3.specs.Sizes.{cond_size, arguments_size, size, reach, breadth, zero_mask, parallel_breadth}
use Rattle.eb3.specs.Editions.{edition_1, edition_of}
use Rattle.eb3.specs.RuleSets.{rule_perform, rule_choice, rule_star, rule_guard, RuleSet, attributes}
use Rattle.eb3.specs.Unfolding.{argument_value, instantiate_cond, right_nest, unfold_term, unfold_below, unfold_main}
use Rattle.eb3.specs.Spelling.{number_words, data_words, arguments_words, words}
use Rattle.eb3.specs.RuleSpelling.{argument_words, rule_words, function_words, functions_words, process_words, rules_words, stream_words}
use Rattle.eb3.specs.Reading.{giving, then, both, number_of, by_number, count_of, repeat, counted, for_each, series, number_in}
use Rattle.eb3.specs.ExpressionReading.{constant_of, args_of, readers, read_data, read_cond}
use Rattle.eb3.specs.TermReading.{mask_of, element_of, elements_of, action_of, terms, read_term, given_term}
use Rattle.eb3.specs.RuleReading.{read_parameter_counts, read_function, read_functions, argument_of, arguments_of, rule_action_of, call_of, choice_over_of, parallel_over_of, rule_terms, read_rule_term, read_process, read_processes, read_rules}
use Rattle.eb3.specs.Bytes.{words_in, bytes_of, doubles_in, double_words, written}
use Rattle.eb3.specs.Memory.{memory_words, cells_in}
use Rattle.eb3.specs.Answers.{answered, and_then, Sizes, Ran, Written}
use Rattle.eb3.specs.Readers.{numbers_of, readers_of, numbers_in, all_read, lets_through, at_reader, counts_from, sums, increased, record_number}
use Rattle.eb3.specs.Blocks.{sums_from, block_right, blocks_right, contents, edition_in, open_blocks}
use Rattle.eb3.specs.Files.{block_of, blocks_from, file_of}
use Rattle.eb3.specs.Admission.{all_zero, ended, within_limits, admission}
use Rattle.eb3.specs.Operations.{admit, count, run}
use Rattle.eb3.specs.Demands.{cut}
use Rattle.eb3.specs.KeyCabinet.{cabinet, key}
use Rattle.eb3.specs.Examples.{mask_zero}
use Rattle.eb3.proofs.Laws.Machines.{history_chain}
use Rattle.past.specs.PastInCells.{SameEnd, PastInCells, followed_by, Lent, run_in}
use Rattle.past.proofs.Laws.PastInCells.{past_in_cells_holds}

-- ── two histories of the key cabinet with the same end ──

abbrev cabinet_file : List ℕ
cabinet_file = file_of cabinet

abbrev cabinet_sizes : Sizes
cabinet_sizes = record { cells = 2; reach = 77; breadth = 4; size = 41 }

-- Buffers of the reported sizes and a table of 32 records, filled with 7.
abbrev sevens : Lent cabinet_sizes
sevens = record {
  table = replicate 384 7;
  term = replicate 154 7;
  memory = replicate 4 7;
  spare_term = replicate 154 7;
  spare_memory = replicate 4 7;
  records = omega arith;
  room = record { term_room = omega arith; memory_room = omega arith };
  spare_room = record { term_room = omega arith; memory_room = omega arith };
}

-- Take 0, Bring 0, Take 1, Bring 1: at the start move 1 is Take 0, then 0 is Bring 0, 3 is Take 1 and 2 Bring 1. Readers 1, 2, 1, 3.
abbrev four_events : List ℕ
four_events = 1 ∷ 0 ∷ 1 ∷ 0 ∷ 0 ∷ 0 ∷ 2 ∷ 0 ∷ 3 ∷ 0 ∷ 1 ∷ 0 ∷ 2 ∷ 0 ∷ 3 ∷ 0 ∷ []

-- Take 1, Bring 1, a number that is refused, Take 0, Bring 0 and both once more, by readers 5, 5, 32, 1, 1, 2, 2; and an odd last byte.
abbrev six_events : List ℕ
six_events = 3 ∷ 0 ∷ 5 ∷ 0 ∷ 2 ∷ 0 ∷ 5 ∷ 0 ∷ 9 ∷ 0 ∷ 32 ∷ 0 ∷ 1 ∷ 0 ∷ 1 ∷ 0 ∷ 0 ∷ 0 ∷ 1 ∷ 0 ∷ 1 ∷ 0 ∷ 2 ∷ 0 ∷ 0 ∷ 0 ∷ 2 ∷ 0 ∷ 77 ∷ []

four_read : T (all_read (words_in four_events))
unfolding words_in all_read
four_read = tt

six_read : T (all_read (words_in six_events))
unfolding words_in all_read
six_read = tt

abbrev history : List ℕ → Machine (Sem_T (attributes cabinet))
history list = history_run (attributes cabinet) (unfold_main cabinet) (numbers_in list)

-- Both histories leave both keys in, and one term: each key's star in a sequence after done.
abbrev out_after : List ℕ → ℕ → Value
out_after list k = attribute_value (attributes cabinet) (history list).state.state 0 (k ∷ [])

pub record BothIn (list : List ℕ) : Type 0 where
  pub key_0 : out_after list 0 ≡ number 0
  pub key_1 : out_after list 1 ≡ number 0
  pub term_is : (history list).state.term ≡ Parallel mask_zero (Sequence Done (key 0)) (Sequence Done (key 1))

four_in : BothIn four_events
unfolding function history_run machine_run machine_step words_in numbers_of unfold_main unfold_below unfold_term right_nest argument_value instantiate_cond moves done? in_mask bit same_action same_list state_after guard_holds value_at attribute_value before_values now_below apply_in_domain evaluate evaluate_data variables equal
four_in = record { key_0 = refl; key_1 = refl; term_is = refl }

six_in : BothIn six_events
unfolding function history_run machine_run machine_step words_in numbers_of unfold_main unfold_below unfold_term right_nest argument_value instantiate_cond moves done? in_mask bit same_action same_list state_after guard_holds value_at attribute_value before_values now_below apply_in_domain evaluate evaluate_data variables equal
six_in = record { key_0 = refl; key_1 = refl; term_is = refl }

module _ (list list' : List ℕ) (b : BothIn list) (b' : BothIn list') where
  same_out : (f : ℕ) → f < 1 → (xs : List ℕ) → Within (domain (attributes cabinet) f) xs
      → attribute_value (attributes cabinet) (history list).state.state f xs ≡ attribute_value (attributes cabinet) (history list').state.state f xs
  unfolding function
  same_out zero l (zero ∷ []) w = b.key_0 ∙ sym b'.key_0
  same_out zero l (suc zero ∷ []) w = b.key_1 ∙ sym b'.key_1
  same_out zero l (suc (suc x) ∷ []) w = let z : ⊥ = omega (arith, w.0) in absurd z
  same_out zero l [] w = absurd w
  same_out zero l (x ∷ y ∷ xs) w = absurd w.1
  same_out (suc f) l xs w = let z : ⊥ = omega arith in absurd z

  ends_alike : SameEnd (attributes cabinet) (history list).state (history list').state
  ends_alike = record { same_term = b.term_is ∙ sym b'.term_is; same_values = same_out }

-- ── the same list after both ──

-- Take 1 by reader 5, a number that is refused by reader 32, and the end of key 0's star by reader 1.
abbrev further : List ℕ
further = 3 ∷ 0 ∷ 5 ∷ 0 ∷ 9 ∷ 0 ∷ 32 ∷ 0 ∷ 0 ∷ 0 ∷ 1 ∷ 0 ∷ []

abbrev ran : List ℕ → Written Ran
ran list = (run_in cabinet_file sevens list).written

-- The records of readers 1, 5 and 32 after a run: visible, internal, refused.
abbrev record_of : List ℕ → ℕ → List ℕ
record_of table r = record_number table r 0 ∷ record_number table r 1 ∷ record_number table r 2 ∷ []

abbrev records : List ℕ → List (List ℕ)
records list = let table = (run_in cabinet_file sevens list).table in record_of table 1 ∷ record_of table 5 ∷ record_of table 32 ∷ []

-- ── what the request asks of two histories is needed ──

-- One function over one element: 1 after label 0, 0 after label 1, else as before. Main repeats label 0, label 1 or, while the function is 1, label 2.
abbrev switch : RuleSet
switch = record {
  edition = edition_1;
  domains = 1 ∷ [];
  labels = [] ∷ [] ∷ [] ∷ [];
  functions = record { parameters = 0 ∷ []; at_start = Constant 0; at_label = Constant 1 ∷ Constant 0 ∷ Before 0 (Cons (Variable 0) Nil) ∷ [] } ∷ [];
  processes = record {
    parameters = [];
    term = rule_star (rule_choice (rule_perform 0 []) (rule_choice (rule_perform 1 []) (rule_guard (Equal (Now 0 (Cons (Constant 0) Nil)) (Constant 1)) (rule_perform 2 []))));
  } ∷ [];
}

abbrev switch_file : List ℕ
switch_file = file_of switch

abbrev buffer : ℕ → List ℕ
buffer n = replicate n 7

abbrev switched : List ℕ → Written Ran
switched list = (run switch_file list (buffer 384) (buffer 100) (buffer 2) (buffer 100) (buffer 2)).written

pub record Executed : Type 0 where
  pub figures : admit cabinet_file ≡ answered cabinet_sizes
  pub admitted_as : admission cabinet_file ≡ answered cabinet
  -- 4 events against 6 and a refusal: one size, one memory.
  pub four_answer : (ran four_events).answer ≡ answered (record { size = 45; visible = 4; internal = 0; refusals = 0 })
  pub six_answer : (ran six_events).answer ≡ answered (record { size = 45; visible = 6; internal = 0; refusals = 1 })
  -- With the further list after each: one size, one memory, and counts that differ as they did.
  pub four_further : (ran (followed_by four_events further)).answer ≡ answered (record { size = 31; visible = 5; internal = 1; refusals = 1 })
  pub six_further : (ran (followed_by six_events further)).answer ≡ answered (record { size = 31; visible = 7; internal = 1; refusals = 2 })
  -- Each number of the table was 117,901,063 (four bytes of 7). The further list adds 1 to reader 1's second number, to reader 5's first and to reader 32's
  -- third, after the four events and after the six.
  pub four_records : records four_events ≡ (117901065 ∷ 117901063 ∷ 117901063 ∷ []) ∷ (117901063 ∷ 117901063 ∷ 117901063 ∷ []) ∷ (117901063 ∷ 117901063 ∷ 117901063 ∷ []) ∷ []
  pub four_further_records : records (followed_by four_events further)
      ≡ (117901065 ∷ 117901064 ∷ 117901063 ∷ []) ∷ (117901064 ∷ 117901063 ∷ 117901063 ∷ []) ∷ (117901063 ∷ 117901063 ∷ 117901064 ∷ []) ∷ []
  pub six_records : records six_events ≡ (117901065 ∷ 117901063 ∷ 117901063 ∷ []) ∷ (117901065 ∷ 117901063 ∷ 117901063 ∷ []) ∷ (117901063 ∷ 117901063 ∷ 117901064 ∷ []) ∷ []
  pub six_further_records : records (followed_by six_events further)
      ≡ (117901065 ∷ 117901064 ∷ 117901063 ∷ []) ∷ (117901066 ∷ 117901063 ∷ 117901063 ∷ []) ∷ (117901063 ∷ 117901063 ∷ 117901065 ∷ []) ∷ []
  pub four_memory : (ran (followed_by four_events further)).memory ≡ 0 ∷ 0 ∷ 1 ∷ 0 ∷ []
  pub six_memory : (ran (followed_by six_events further)).memory ≡ 0 ∷ 0 ∷ 1 ∷ 0 ∷ []
  -- Equal values are not enough: after the internal move 0 of the start no event has happened, and two moves are left of four.
  pub no_event_memory : (ran (0 ∷ 0 ∷ 4 ∷ 0 ∷ [])).memory ≡ (ran []).memory
  pub no_event_count : count cabinet_file (cut 24 (ran (0 ∷ 0 ∷ 4 ∷ 0 ∷ [])).term) (ran (0 ∷ 0 ∷ 4 ∷ 0 ∷ [])).memory ≡ answered 2
  pub start_count : count cabinet_file (cut 41 (ran []).term) (ran []).memory ≡ answered 4
  -- Nor do Take 0, Bring 0 lead back to the start: the values are the start's, but key 0's star is now in a sequence after done, two words more than
  -- the start's 41.
  pub round_memory : (ran (1 ∷ 0 ∷ 4 ∷ 0 ∷ 0 ∷ 0 ∷ 4 ∷ 0 ∷ [])).memory ≡ (ran []).memory
  pub round_answer : (ran (1 ∷ 0 ∷ 4 ∷ 0 ∷ 0 ∷ 0 ∷ 4 ∷ 0 ∷ [])).answer ≡ answered (record { size = 43; visible = 2; internal = 0; refusals = 0 })
  -- Equal terms are not enough: after label 0 and after label 1 one term is left, but not one value, and label 2 is offered after the first only.
  pub same_switch_term : (switched (1 ∷ 0 ∷ 4 ∷ 0 ∷ [])).term ≡ (switched (2 ∷ 0 ∷ 4 ∷ 0 ∷ [])).term
  pub on_memory : (switched (1 ∷ 0 ∷ 4 ∷ 0 ∷ [])).memory ≡ 1 ∷ 0 ∷ []
  pub off_memory : (switched (2 ∷ 0 ∷ 4 ∷ 0 ∷ [])).memory ≡ 0 ∷ 0 ∷ []
  pub on_further : (switched (1 ∷ 0 ∷ 4 ∷ 0 ∷ 3 ∷ 0 ∷ 4 ∷ 0 ∷ [])).answer ≡ answered (record { size = 19; visible = 2; internal = 0; refusals = 0 })
  pub off_further : (switched (2 ∷ 0 ∷ 4 ∷ 0 ∷ 3 ∷ 0 ∷ 4 ∷ 0 ∷ [])).answer ≡ answered (record { size = 19; visible = 1; internal = 0; refusals = 1 })

pub executed : Executed
unfolding admit and_then admission open_blocks edition_in edition_of functions_words blocks_right block_right sums_from contents words_in ended all_zero within_limits file_of blocks_from block_of bytes_of stream_words rules_words function_words process_words rule_words argument_words data_words number_words giving then both number_of by_number count_of repeat counted for_each series number_in constant_of args_of readers read_data read_cond mask_of read_parameter_counts read_function read_functions argument_of arguments_of rule_action_of call_of choice_over_of parallel_over_of rule_terms read_rule_term read_process read_processes read_rules unfold_main unfold_below unfold_term right_nest argument_value instantiate_cond size reach breadth parallel_breadth zero_mask cond_size arguments_size offset cell_count function run count written words arguments_words memory_words encode history_run machine_run machine_step moves done? in_mask bit same_action same_list state_after guard_holds value_at attribute_value before_values now_below apply_in_domain evaluate evaluate_data variables equal values_up_to tabulate concat_tabulate cells_in decode bounded cell_at cell_index terms read_term given_term element_of elements_of action_of numbers_of readers_of all_read lets_through at_reader counts_from sums increased doubles_in double_words history_outcomes outcomes tally
executed = record {
  figures = refl;
  admitted_as = refl;
  four_answer = refl;
  six_answer = refl;
  four_further = refl;
  six_further = refl;
  four_records = refl;
  four_further_records = refl;
  six_records = refl;
  six_further_records = refl;
  four_memory = refl;
  six_memory = refl;
  no_event_memory = refl;
  no_event_count = refl;
  start_count = refl;
  round_memory = refl;
  round_answer = refl;
  same_switch_term = refl;
  on_memory = refl;
  off_memory = refl;
  on_further = refl;
  off_further = refl;
}

-- Of these two histories the request says this, whatever list comes after both.
pub cabinet_past : PastInCells cabinet_file four_events six_events cabinet_sizes cabinet (history four_events) (history six_events)
cabinet_past = past_in_cells_holds cabinet_file four_events six_events cabinet_sizes cabinet (history four_events) (history six_events) executed.figures executed.admitted_as four_read six_read
    (history_chain (attributes cabinet) (unfold_main cabinet) (numbers_in four_events)) (history_chain (attributes cabinet) (unfold_main cabinet) (numbers_in six_events))
    (ends_alike four_events six_events four_in six_in)
