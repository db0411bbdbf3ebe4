-- What holds of every admitted rule set (`admitted_facts`), put together from the laws of its parts.
use Rattle.std.specs.Prelude.{◌≡◌, List, [], ◌∷◌, ◌++◌, ℕ, ◌+◌, ◌-◌, ◌*◌, ◌≤◌, ◌<◌, get_or}
use Rattle.std.proofs.Math.Path.{ap, subst}
use Rattle.std.proofs.Common.{◌∙◌, arith, length-append}
use Rattle.std.proofs.Math.ListN.{length, replicate}
use Rattle.std.proofs.lemmas.List.{length-replicate}
use Rattle.eb3.specs.Generic.Positions.{Enumeration}
use Rattle.eb3.specs.Terms.{Term}
use Rattle.eb3.specs.Derivations.{DataState}
use Rattle.eb3.specs.Attributes.{AttributeFunction, number_of_functions, value_at}
use Rattle.eb3.proofs.Laws.Attributes.{value_empty, value_last, value_at_most}
use Rattle.eb3.specs.Cells.{cell_at, initial_cells, renew}
use Rattle.eb3.proofs.Laws.Cells.{cells_counted, start_cell, renewed_cell}
use Rattle.eb3.specs.Expressions.{Undefined, no_reading, environment, evaluate_data}
use Rattle.eb3.specs.Semantics.{situation, system}
use Rattle.eb3.specs.RuleSets.{RuleSet, label, main_process, attributes}
use Rattle.eb3.proofs.Laws.RuleSets.{functions_counted, function_is}
use Rattle.eb3.specs.Unfolding.{unfold_main}
use Rattle.eb3.specs.SourceTerms.{s_call, SourceDerivation, SourceEarlier}
use Rattle.eb3.proofs.Laws.SourceDerivations.{main_call}
use Rattle.eb3.proofs.Laws.SourceOrder.{main_enumeration}
use Rattle.eb3.specs.WellFormedness.{WellFormed}
use Rattle.eb3.proofs.Laws.MainRunning.{main_running}
use Rattle.eb3.proofs.Laws.Running.{expressions_in_scope, parameters_small, trace_small}
use Rattle.eb3.specs.Measures.{Measure}
use Rattle.eb3.proofs.Laws.Saturation.{main_sat, main_answers}
use Rattle.eb3.proofs.Laws.TermReading.{given_term_exact, given_event_exact}
use Rattle.eb3.specs.RuleSpelling.{stream_words}
use Rattle.eb3.specs.Blocks.{content_words, block_count, stream}
use Rattle.eb3.specs.Answers.{answered}
use Rattle.eb3.specs.Admission.{admission}
use Rattle.eb3.proofs.Laws.Admission.{blocks_there, stream_length, admitted}
use Rattle.eb3.specs.Admitted.{concluded_source, Admitted}
use Rattle.eb3.proofs.Laws.Editions.{only_edition_1}

module _ (rules : List ℕ) (R : RuleSet) (a : admission rules ≡ answered R) where
  good : WellFormed R
  good = (admitted rules R a).good

  -- The count of zeros is what is left of the blocks.
  used : ℕ
  used = length (stream_words (block_count rules) R)

  abbrev Ends : ℕ → Type 0
  Ends n = (n < content_words) × (stream rules ≡ stream_words (block_count rules) R ++ replicate n 0)

  whole : length (stream rules) ≡ content_words * block_count rules
  whole = stream_length rules (admitted rules R a).whole

  counted : (n : ℕ) → Ends n → (n ≡ content_words * block_count rules - used) × (used ≤ content_words * block_count rules)
  unfolding used
  counted n e =
      let l : length (stream rules) ≡ used + n = ap length e.1 ∙ (length-append (stream_words (block_count rules) R) (replicate n 0) ∙ ap (λ m. used + m) (length-replicate {A = ℕ} n 0)) in
      (omega (arith, whole), omega (arith, whole))

  some_block : 1 ≤ block_count rules
  some_block = blocks_there rules (admitted rules R a).whole

  -- Main as it runs is the unfolding of the call of main.
  main_derived : (S : DataState) (M : S.State) → Enumeration (SourceDerivation R S M (s_call (main_process R) [])) SourceEarlier concluded_source ((system S).transitions (situation (unfold_main R) M))
  main_derived S M = subst (λ (E : Term). Enumeration (SourceDerivation R S M (s_call (main_process R) [])) SourceEarlier concluded_source ((system S).transitions (situation E M))) (main_call R good.form)
      (main_enumeration R good.form S M)

  module _ (f : ℕ) (defined : f < length R.functions) where
    there : f < number_of_functions (attributes R)
    there = omega (arith, functions_counted R)

  pub admitted_facts : Admitted rules R
  unfolding used
  admitted_facts =
      let t = (admitted rules R a).spelled in
      let c = counted t.0 (t.1, t.2) in
      record {
        well_formed = good;
        of_edition_1 = only_edition_1 R.edition good.defined;
        spelled = subst (λ n. stream rules ≡ stream_words (block_count rules) R ++ replicate n 0) c.0 t.2;
        in_last_block = (omega (arith, c, t.1, some_block), c.1);
        starts = main_running R good;
        main_derived = main_derived;
        measured = main_answers 65536 (omega arith) (omega arith) R (omega (arith, ap (λ (m : Measure). m.reach) (main_sat 65536 R), good.reach_limit)) (omega (arith, ap (λ (m : Measure). m.breadth) (main_sat 65536 R), good.breadth_limit));
        value_empty = λ f d xs. value_empty (attributes R) (λ l. length (label R l)) (expressions_in_scope R good.form) f (there f d) xs
            ∙ ap (λ (F : AttributeFunction). evaluate_data F.at_start (environment R.edition.top xs (value_at (attributes R) []) no_reading)) (function_is R f d);
        value_last = λ f d xs e H. value_last (attributes R) (λ l. length (label R l)) (expressions_in_scope R good.form) f (there f d) xs e H
            ∙ ap (λ (F : AttributeFunction). evaluate_data (get_or F.at_label e.label Undefined) (environment R.edition.top (xs ++ e.arguments) (value_at (attributes R) (e ∷ H)) (value_at (attributes R) H))) (function_is R f d);
        value_bounded = λ f d H w xs h. value_at_most (attributes R) (λ l. length (label R l)) (expressions_in_scope R good.form) (parameters_small R good.form) H
            (trace_small R good.form H w) f (there f d) xs h;
        cell_start = λ f d xs w. start_cell (attributes R) (λ l. length (label R l)) (expressions_in_scope R good.form) f (there f d) xs w
            ∙ ap (λ (F : AttributeFunction). evaluate_data F.at_start (environment R.edition.top xs (cell_at (attributes R) (initial_cells (attributes R))) no_reading)) (function_is R f d);
        cell_renewed = λ f d xs w M e. renewed_cell (attributes R) (λ l. length (label R l)) (expressions_in_scope R good.form) f (there f d) xs w M e
            ∙ ap (λ (F : AttributeFunction). evaluate_data (get_or F.at_label e.label Undefined) (environment R.edition.top (xs ++ e.arguments) (cell_at (attributes R) (renew (attributes R) M e)) (cell_at (attributes R) M))) (function_is R f d);
        cell_counts = cells_counted (attributes R);
        term_accepted = given_term_exact R good.form.proper.constants.0;
        event_accepted = given_event_exact R good.form.proper.constants.0;
      }
