-- What is bounded in tables while a rule set is read, and the parameters of its processes.
-- Document 01, "Blocks and the rule stream", items 2 to 5.
use Rattle.std.specs.Prelude.{List, ℕ, ◌≤◌, length}
use Rattle.eb3.specs.Generic.AllLists.{All}
use Rattle.eb3.specs.RuleSets.{Process, RuleSet}
use Rattle.tables.specs.Layout.{domain_count, label_count}
use Rattle.tables.specs.Tables.{declared}

-- Tables within their bounds.
pub record Bounded (T : List ℕ) : Type 0 where
  pub domains_few : domain_count T ≤ 16
  pub labels_few : label_count T ≤ 64
  pub label_rows : All (λ l. length l ≤ 2) (declared T).labels

-- Processes of at most four parameters.
abbrev pub Narrow : RuleSet → Type 0
Narrow R = All (λ (Q : Process). length Q.parameters ≤ 4) R.processes
