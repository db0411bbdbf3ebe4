-- Start is the run of no numbers, but that it writes no zeros (`start_is_run`).
use Rattle.std.specs.Prelude.{◌≡◌, ℕ, ◌*◌, ◌≤◌, T}
use Rattle.std.proofs.Math.Path.{ap, sym}
use Rattle.std.proofs.Common.{◌∙◌}
use mathlib.Core.List.{List, [], ◌++◌, append-nil}
use Rattle.std.proofs.Math.ListN.{length, take}
use Rattle.eb3.proofs.Laws.Cells.{initial_values}
use Rattle.eb3.specs.TransitionSystems.{run as machine_run}
use Rattle.eb3.specs.Machines.{history_run}
use Rattle.eb3.specs.RuleSets.{RuleSet, attributes}
use Rattle.eb3.specs.Unfolding.{unfold_main}
use Rattle.eb3.specs.WellFormedness.{WellFormed}
use Rattle.eb3.proofs.Laws.MainRunning.{main_running}
use Rattle.eb3.specs.Spelling.{words}
use Rattle.eb3.proofs.Laws.Spelling.{words_length}
use Rattle.eb3.specs.Bytes.{words_in, bytes_of, written}
use Rattle.eb3.proofs.Laws.Bytes.{written_cut}
use Rattle.eb3.specs.Memory.{memory_words}
use Rattle.eb3.specs.Limits
use Rattle.eb3.specs.Readers.{numbers_of, all_read, record_count, lets_through}
use Rattle.eb3.proofs.Laws.Readers.{let_through}
use Rattle.eb3.specs.Answers.{answered, Sizes, Ran, Written}
use Rattle.eb3.specs.Admission.{admission}
use Rattle.eb3.proofs.Laws.Admission.{admitted}
use Rattle.eb3.specs.Operations.{sizes_needed, admit, run}
use Rattle.eb3.specs.Demands.{Roomy, cut, run_result, StartIsRun}
use Rattle.eb3.proofs.Laws.DemandOne.{start_writes}
use Rattle.eb3.proofs.Laws.DemandThree.{admit_reports, run_is, h}

module _ (rules : List ℕ) (S : Sizes) (R : RuleSet) (a : admission rules ≡ answered R) (s : sizes_needed R ≡ S) (table term memory spare_term spare_memory : List ℕ)
    (room : Roomy S term memory) (spare : Roomy S spare_term spare_memory) (through : T (lets_through [] table)) where
  -- A buffer at whose beginning main's unfolding was written, cut to its size, is that unfolding, whatever was written after it.
  main_cut : (vs : List ℕ) → cut S.size (written (words R.edition.width (unfold_main R) ++ vs) term) ≡ bytes_of (words R.edition.width (unfold_main R))
  main_cut vs =
      let good : WellFormed R = (admitted rules R a).good in
      let e : S.size ≡ length (words R.edition.width (unfold_main R)) = sym (ap (λ (x : Sizes). x.size) s) ∙ sym (words_length R (unfold_main R) (main_running R good).form) in
      ap (λ n. take (2 * n) (written (words R.edition.width (unfold_main R) ++ vs) term)) e ∙ written_cut (words R.edition.width (unfold_main R)) vs term

  nothing_run : (run rules [] table term memory spare_term spare_memory).written ≡ run_result R (h rules S R a s [] table term memory spare_term spare_memory room spare through) term memory
  nothing_run = run_is rules S R a s [] table term memory spare_term spare_memory room spare through

  agreed : StartIsRun rules table term memory spare_term spare_memory S
  unfolding h history_run machine_run words_in numbers_of
  agreed = record {
    same_size = ap (λ (w : Written ℕ). w.answer) (start_writes rules S R a s term memory room) ∙ ap (λ (x : Sizes). answered x.size) s;
    same_term = ap (λ (w : Written ℕ). cut S.size w.term) (start_writes rules S R a s term memory room)
        ∙ (ap (λ ws. cut S.size (written ws term)) (sym (append-nil (words R.edition.width (unfold_main R)))) ∙ (main_cut []
        ∙ sym (ap (λ (w : Written Ran). cut S.size w.term) nothing_run ∙ main_cut _)));
    same_memory = ap (λ (w : Written ℕ). w.memory) (start_writes rules S R a s term memory room)
        ∙ (ap (λ cells. written (memory_words cells) memory) (initial_values (attributes R)) ∙ sym (ap (λ (w : Written Ran). w.memory) nothing_run));
  }

-- No number lacks a reader; the table has its records.
nothing_through : (table : List ℕ) → Limits.readers ≤ record_count table → T (lets_through [] table)
unfolding all_read words_in
nothing_through table enough = let_through [] table tt enough

pub start_is_run : (rules table term memory spare_term spare_memory : List ℕ) (S : Sizes) → admit rules ≡ answered S → Roomy S term memory → Roomy S spare_term spare_memory
    → Limits.readers ≤ record_count table → StartIsRun rules table term memory spare_term spare_memory S
start_is_run rules table term memory spare_term spare_memory S e room spare enough =
    let p = admit_reports rules S e in agreed rules S p.0 p.1 p.2 table term memory spare_term spare_memory room spare (nothing_through table enough)
