-- A rule set and a term that are described (`DescribedBy`) satisfy what the steps ask of the rule set's words, tables and directory (`Ruled`).
-- Document 01, "Operations": each call admits and checks everything itself.
use Rattle.std.specs.Prelude.{List, ℕ}
use Rattle.eb3.specs.Terms.{Term}
use Rattle.eb3.specs.RuleSets.{RuleSet}
use Rattle.runs.specs.declared.admitted.Admitted.{Admitted}
use Rattle.steps.specs.Storing.{Ruled}
use Rattle.given.specs.Laws.Giving.{described_ruled}
use Rattle.engine.specs.Describing.{DescribedBy}

pub described_by_ruled : (rules : Admitted) (R : RuleSet) (E : Term) (s : List ℕ) → DescribedBy rules R E s
    → Ruled R rules.functions.words.now rules.tables.now rules.functions.directory.now rules.functions.width rules.functions.count rules.functions.cells
described_by_ruled rules R E s d = described_ruled R E _ rules.tables.now _ s d.described _ _ _ rules.labels_counted rules.functions_counted d.cells_are
