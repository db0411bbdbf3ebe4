-- What is known where a file was admitted with a directory: the rule set, its form, its sizes, and where its parts are (document 01, "Operations": no call
-- trusts an earlier one, so each operation begins so).
use Rattle.std.specs.Prelude.{◌≡◌, List, ℕ, drop}
use Rattle.eb3.specs.RuleSets.{RuleSet}
use Rattle.eb3.specs.Blocks.{stream}
use Rattle.eb3.specs.Admission.{admission}
use Rattle.eb3.specs.WellFormedness.{WellFormed}
use Rattle.eb3.specs.Answers.{answered}
use Rattle.eb3.specs.Operations.{sizes_needed}
use Rattle.measures.specs.declared.Limits.{Limits}
use Rattle.declarations.specs.Directory.{Directory}
use Rattle.admission.specs.Answering.{limits}

pub record Known (rules T D : List ℕ) (l : Limits) : Type 0 where
  pub rule_set : RuleSet
  pub admitted_as : admission rules ≡ answered rule_set
  pub well : WellFormed rule_set
  pub sizes : l ≡ limits (sizes_needed rule_set)
  pub directory : Directory (drop 2 (stream rules)) T D rule_set
