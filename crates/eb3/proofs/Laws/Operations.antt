-- What the operations read back of what they wrote: a running term's words are that term, and a memory of values is those values.
use Rattle.std.specs.Prelude.{◌≡◌, List, ◌++◌, ℕ, ◌*◌, ◌%◌, T, eqb, length, take}
use Rattle.std.proofs.Common.{ap, sym, ◌∙◌, subst, arith}
use Rattle.eb3.specs.Refusal
use Rattle.eb3.specs.Terms.{Term}
use Rattle.eb3.specs.Attributes.{Trace}
use Rattle.eb3.specs.Cells.{all_values}
use Rattle.eb3.proofs.Laws.Cells.{length_values, values_at_most}
use Rattle.eb3.specs.Sizes.{size}
use Rattle.eb3.specs.RuleSets.{RuleSet, label, attributes}
use Rattle.eb3.proofs.Laws.RuleSets.{functions_counted}
use Rattle.eb3.specs.WellFormedness.{WellFormedTerm, WellFormedTrace, Running, Form}
use Rattle.eb3.proofs.Laws.MainRunning.{small_domains}
use Rattle.eb3.proofs.Laws.Running.{expressions_in_scope, parameters_small, trace_small}
use Rattle.eb3.specs.Spelling.{words}
use Rattle.eb3.proofs.Laws.Spelling.{Small, words_length, words_small}
use Rattle.eb3.proofs.Laws.Reading.{pick_true}
use Rattle.eb3.proofs.Laws.TermReading.{given_term_exact}
use Rattle.eb3.specs.Bytes.{words_in, bytes_of, written}
use Rattle.eb3.proofs.Laws.Bytes.{bytes_length, bytes_back, written_cut}
use Rattle.eb3.specs.Memory.{memory_words}
use Rattle.eb3.proofs.Laws.Memory.{cells_back}
use Rattle.eb3.specs.Answers.{answered}
use Rattle.eb3.specs.Operations.{even, term_in, cells_given, cells_needed}
use Rattle.eb3.specs.Answers.{or_refused}

module _ (R : RuleSet) (good : Form R) where
  pub spelling_small : (E : Term) → WellFormedTerm R E → Small (words R.edition.width E)
  spelling_small E w =
      words_small R good.proper.constants.1 (omega (arith, functions_counted R, good.function_count)) (omega (arith, good.label_count.1)) (small_domains R good) E w

  -- A running term's words, as bytes, are read back as that term.
  pub term_back : (E : Term) → Running R E → term_in R (bytes_of (words R.edition.width E)) ≡ answered E
  term_back E w =
      let s = bytes_of (words R.edition.width E) in
      let twice : length s % 2 ≡ 0 = omega (arith, bytes_length (words R.edition.width E)) in
      pick_true _ _ (even s) (subst (λ n. T (eqb n 0)) (sym twice) tt) ∙ ap (or_refused Refusal.term) ((given_term_exact R good.proper.constants.0 (words_in s) E).1 (bytes_back (words R.edition.width E) (spelling_small E w.form), w))

  -- A buffer in which a term was written at the beginning, cut to that term's length, is read back as that term.
  pub cut_back : (E : Term) (vs buffer : List ℕ) → Running R E → term_in R (take (2 * size R.edition.width E) (written (words R.edition.width E ++ vs) buffer)) ≡ answered E
  cut_back E vs buffer w =
      ap (λ n. term_in R (take (2 * n) (written (words R.edition.width E ++ vs) buffer))) (sym (words_length R E w.form))
      ∙ (ap (term_in R) (written_cut (words R.edition.width E) vs buffer) ∙ term_back E w)

  -- A memory of the values over a trace is read back as those values.
  pub values_back : (H : Trace) (memory : List ℕ) → WellFormedTrace R H → cells_given R (written (memory_words (all_values (attributes R) H)) memory) ≡ all_values (attributes R) H
  values_back H memory w = cells_back R.edition.top good.proper.largest.1 (cells_needed R) (all_values (attributes R) H) memory (length_values (attributes R) H)
      (values_at_most (attributes R) (λ l. length (label R l)) (expressions_in_scope R good) (parameters_small R good) H (trace_small R good H w))
