-- What is known of the rule set that was admitted and of a given term (document 01, "Operations": each call admits and checks everything itself).
use Rattle.std.specs.Prelude.{◌≡◌, List, ℕ}
use Rattle.eb3.specs.Terms.{Term}
use Rattle.eb3.specs.RuleSets.{RuleSet}
use Rattle.eb3.specs.WellFormedness.{WellFormed}
use Rattle.declarations.specs.Directory.{Directory}
use Rattle.eb3.specs.Operations.{cells_needed}
use Rattle.runs.specs.declared.admitted.Admitted.{Admitted}
use Rattle.given.specs.Giving.{Described}

-- R is the rule set that was admitted.
pub record AdmittedAs (rules : Admitted) (R : RuleSet) : Type 0 where
  pub well : WellFormed R
  pub directory : Directory rules.functions.words.now rules.tables.now rules.functions.directory.now R
  pub cells_are : rules.functions.cells ≡ cells_needed R

-- R is the rule set that was admitted, and s are the words of its running term E.
pub record DescribedBy (rules : Admitted) (R : RuleSet) (E : Term) (s : List ℕ) : Type 0 where
  pub described : Described R E rules.functions.words.now rules.tables.now rules.functions.directory.now s
  pub cells_are : rules.functions.cells ≡ cells_needed R
