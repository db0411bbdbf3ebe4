-- What a rule set of the edition that the tables say has: constants of one word, and 65,534 as its largest number (document 01, "Values and conditions",
-- "Blocks and the rule stream", item 1). Where the tables can say another edition, these go.
use Rattle.std.specs.Prelude.{◌≡◌, List, ℕ}
use Rattle.std.proofs.Math.Path.{ap}
use Rattle.eb3.specs.Editions.{Edition}
use Rattle.eb3.specs.RuleSets.{RuleSet}
use Rattle.tables.specs.Tables.{edition_in}

pub width_in_tables : (T : List ℕ) (R : RuleSet) → R.edition ≡ edition_in T → R.edition.width ≡ 1
width_in_tables T R same = ap (λ (L : Edition). L.width) same

pub top_in_tables : (T : List ℕ) (R : RuleSet) → R.edition ≡ edition_in T → R.edition.top ≡ 65534
top_in_tables T R same = ap (λ (L : Edition). L.top) same
