-- What the tables say of a rule set that the directory describes: how many labels and functions it has (document 01, "Blocks and the rule stream",
-- items 3 and 4). A row of the directory has as many words as there are labels and three more.
use Rattle.std.specs.Prelude.{◌≡◌, List, ℕ, ◌≤◌, length}
use Rattle.std.proofs.Common.{ap, sym, ◌∙◌, arith}
use Rattle.eb3.specs.Cells.{total_cells}
use Rattle.eb3.specs.RuleSets.{RuleSet, attributes}
use Rattle.eb3.specs.WellFormedness.{Form}
use Rattle.tables.specs.Layout.{label_count, function_count}
use Rattle.tables.specs.Laws.Tables.{labels_length}
use Rattle.declarations.specs.Directory.{Directory, row_width}
use Rattle.steps.specs.Storing.{Ruled}

module _ (R : RuleSet) (form : Form R) (t T D : List ℕ) (d : Directory t T D R) where
  pub labels_there : label_count T ≡ length R.labels
  labels_there = sym (labels_length T) ∙ ap length d.declares.tables.heads.same_labels

  pub functions_there : function_count T ≡ length R.functions
  functions_there = d.declares.tables.same_functions

  pub tables_few : (label_count T ≤ 64) × (function_count T ≤ 16)
  tables_few = (omega (arith, labels_there, form.label_count.1), omega (arith, functions_there, form.function_count))

  pub ruled_there : (w n c : ℕ) → w ≡ row_width (label_count T) → n ≡ function_count T → c ≡ total_cells (attributes R) → Ruled R t T D w n c
  ruled_there w n c ew en ec = record {
    form = form;
    directory = d;
    width_is = ew ∙ ap (λ x. row_width x) labels_there;
    functions_are = en ∙ functions_there;
    cells_are = ec;
  }
