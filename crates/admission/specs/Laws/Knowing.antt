-- Where a file was admitted with a directory, either Admit refuses it with the number that was returned (`known_refused`), or all that `Known` says of the
-- rule set, its sizes and the places of its parts holds (`known`).
-- Document 01, "Operations": no call trusts an earlier one, so each operation begins so.
use Rattle.std.specs.Prelude.{◌≡◌, List, ℕ, ◌*◌, ◌≤◌, length, Ok, Err, Result}
use Rattle.std.proofs.Math.Path.{sym}
use Rattle.std.proofs.Common.{◌∙◌, arith, mul-le-mul}
use Rattle.eb3.specs.Admission.{admission}
use Rattle.eb3.specs.WellFormedness.{WellFormed}
use Rattle.eb3.specs.Answers.{refused}
use Rattle.eb3.specs.Operations.{admit}
use Rattle.eb3.proofs.Laws.Admission.{admitted as admitted_form}
use Rattle.measures.specs.declared.Limits.{Limits}
use Rattle.declarations.specs.Directory.{row_width, directory_length}
pub use Rattle.blocks.specs.Files.{Opens}
use Rattle.admission.specs.Answering.{admitted}
use Rattle.admission.specs.Admitting.{FileAdmitted}
use Rattle.admission.specs.Knowing.{Known}
use Rattle.admission.specs.Laws.Admission.{admission_refused, admission_answered, admission_taken}
use Rattle.admission.specs.Laws.Opening.{admit_read}
use Rattle.refusals.specs.declared.Refusal.{Refusal}
use Rattle.refusals.specs.Numbers.{number}

-- Rows of 67 words for 16 functions are the most there are.
rows_few : (a b : ℕ) → a ≤ 64 → b ≤ 16 → row_width a * b ≤ directory_length
rows_few a b h k = let p : row_width a ≤ 67 = omega arith in omega (arith, mul-le-mul p k)

module _ (rules words D : List ℕ) (n : ℕ) (r : Result Limits Refusal) (words' T D' : List ℕ) (o : Opens rules) (f : FileAdmitted rules words D n r words' T D') where
  answer_is : r ≡ admitted (admit rules)
  answer_is = admit_read rules o r f.answer

  pub known_refused : (k : Refusal) → r ≡ Err k → admission rules ≡ refused (number k)
  known_refused k e = admission_refused rules k (sym e ∙ answer_is)

  pub known : (l : Limits) → r ≡ Ok l → length D ≡ directory_length → Known rules T D' l
  known l e room =
      let a = admission_answered rules l (sym e ∙ answer_is) in
      let w : WellFormed a.0 = (admitted_form rules a.0 a.1).good in
      let u = admission_taken rules a.0 a.1 in
      record {
        rule_set = a.0;
        admitted_as = a.1;
        well = w;
        sizes = a.2;
        directory = f.described a.0 u.0 u.1 (omega (arith, rows_few (length a.0.labels) (length a.0.functions) w.form.label_count.1 w.form.function_count));
      }
