-- Stars at the front of a term: what is read of the whole, by what is read after them.
-- Document 01, "Blocks and the rule stream", item 5; "Unfolding, size and breadth".
use Rattle.std.specs.Prelude.{ℕ, zero, suc, ◌≤◌, ◌≡◌, List, length, drop}
use Rattle.eb3.specs.RuleSets.{RuleTerm, rule_star, RuleSet}
use Rattle.eb3.specs.Reading.{Read, giving}
use Rattle.eb3.specs.RuleReading.{read_rule_term}

-- n stars around what was read.
unfoldable pub starred : ℕ → Read RuleTerm → Read RuleTerm
starred zero r = r
starred (suc n) r = giving rule_star (starred n r)

-- The first k words are stars: whatever the rule set and the variables, the whole is k stars around what is after them.
pub record Stars (s : List ℕ) (k : ℕ) : Type 0 where
  pub within : k ≤ length s
  pub reads : (R : RuleSet) (Γ : List ℕ) → read_rule_term R Γ s ≡ starred k (read_rule_term R Γ (drop k s))
