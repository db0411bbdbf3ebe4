-- What admitting a file leaves for the steps after it: the stream's words, the tables that declare the rule set, and the directory of where its functions
-- and processes are, so that nothing is read twice in a call.
-- Document 01, "Operations".
use Rattle.std.specs.Prelude.{◌≡◌, List, ◌++◌, ℕ, ◌*◌, ◌≤◌, length, drop, Result}
use Rattle.eb3.specs.Editions.{edition_1}
use Rattle.eb3.specs.RuleSets.{RuleSet}
use Rattle.eb3.specs.Reading.{taken}
use Rattle.eb3.specs.RuleReading.{read_rules}
use Rattle.eb3.specs.Blocks.{stream}
use Rattle.declarations.specs.Directory.{Directory, row_width}
use Rattle.admission.specs.Answering.{read_whole}
use Rattle.refusals.specs.declared.Refusal.{Refusal}
use Rattle.measures.specs.declared.Limits.{Limits}

-- The tables T and the directory D describe what was read at t, where a directory of n words has room for it.
abbrev pub Described : List ℕ → ℕ → List ℕ → List ℕ → Type 0
Described t n T D = (R : RuleSet) (u : List ℕ) → read_rules edition_1 t ≡ taken R u → row_width (length R.labels) * length R.functions ≤ n → Directory t T D R

-- Of the stream's words after its first two.
pub record WordsAdmitted (t D : List ℕ) (r : Result Limits Refusal) (T' D' : List ℕ) : Type 0 where
  pub answer : r ≡ read_whole t
  pub described : Described t (length D) T' D'

-- Of a file of n blocks, its stream decoded into lent words.
pub record FileAdmitted (rules words D : List ℕ) (n : ℕ) (r : Result Limits Refusal) (words' T' D' : List ℕ) : Type 0 where
  pub answer : r ≡ read_whole (drop 2 (stream rules))
  pub decoded : words' ≡ stream rules ++ drop (254 * n) words
  pub described : Described (drop 2 (stream rules)) (length D) T' D'
