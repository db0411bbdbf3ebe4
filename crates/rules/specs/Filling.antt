-- What reading a rule set answers and fills: the tables by which its processes are read, and the directory of the places of its parts.
-- Document 01, "Blocks and the rule stream", items 2 to 5; refusals 4 to 6.
use Rattle.std.specs.Prelude.{◌≡◌, List, ℕ, ◌*◌, ◌≤◌, ◌<◌, length, Result}
use Rattle.eb3.specs.RuleSets.{Function, RuleSet}
use Rattle.eb3.specs.Reading.{taken, Reader}
use Rattle.eb3.specs.RuleReading.{read_processes, read_rules}
use Rattle.words.specs.Ends.{Tail}
use Rattle.tables.specs.Tables.{edition_in, declared}
use Rattle.declarations.specs.Declaring.{Heads, Tables, Declares}
use Rattle.declarations.specs.Bounds.{Narrow}
use Rattle.declarations.specs.Directory.{ProcessRows, Directory, row_width}
use Rattle.rules.specs.declared.Rules.{Rules}
use Rattle.rules.specs.Sections.{main_weighed, rules_weighed, process_section, function_section, label_section}
use Rattle.refusals.specs.declared.Refusal.{Refusal}
use Rattle.rule_terms.specs.Weighed.{Answer}

-- ── processes: t is an end of the words `whole`, from whose end places are counted ──

-- T declares R, and the terms of its processes are at the places that T gives.
pub record Placed (whole T : List ℕ) (R : RuleSet) : Type 0 where
  pub declares : Declares T R
  pub rows : ProcessRows R.edition.width whole T 0 R.processes

-- What reading n processes answers and fills, after the processes of any rule set that the tables T declare.
pub record ProcessesRead (t T : List ℕ) (n : ℕ) (r : Answer) (T' : List ℕ) : Type 0 where
  pub answer : (R : RuleSet) → Declares T R → Narrow R → r ≡ main_weighed (read_processes n R t)
  pub same_length : length T' ≡ length T
  pub placed : (whole : List ℕ) (R Q : RuleSet) (u : List ℕ) → Tail t whole → Placed whole T R → Narrow R → read_processes n R t ≡ taken Q u → Placed whole T' Q

-- What reading the section of processes answers and fills, after domains, labels and functions.
pub record ProcessSectionRead (t T : List ℕ) (r : Answer) (T' : List ℕ) : Type 0 where
  pub answer : (domains : List ℕ) (labels : List (List ℕ)) (functions : List Function) → Tables T domains labels functions → r ≡ main_weighed (process_section (edition_in T) domains labels functions t)
  pub same_length : length T' ≡ length T
  pub placed : (whole : List ℕ) (domains : List ℕ) (labels : List (List ℕ)) (functions : List Function) (R : RuleSet) (u : List ℕ) → Tail t whole → Tables T domains labels functions
      → process_section (edition_in T) domains labels functions t ≡ taken R u → Placed whole T' R

-- ── the sections, one after the other ──

-- What was read at t by f is described by tables T' and a directory D' as long as D, where D had room for it.
abbrev pub Filled : List ℕ → List ℕ → Reader RuleSet → List ℕ → List ℕ → Type 0
Filled t D f T' D' = (whole : List ℕ) (R : RuleSet) (u : List ℕ) → Tail t whole → length whole < 4294967296 → f t ≡ taken R u → row_width (length R.labels) * length R.functions ≤ length D → Directory whole T' D' R

pub record FunctionSectionRead (t T D : List ℕ) (r : Result Rules Refusal) (T' D' : List ℕ) : Type 0 where
  pub answer : (domains : List ℕ) (labels : List (List ℕ)) → Heads T domains labels → r ≡ rules_weighed (function_section (edition_in T) domains labels t)
  pub same_tables : length T' ≡ length T
  pub same_directory : length D' ≡ length D
  pub filled : (domains : List ℕ) (labels : List (List ℕ)) → Heads T domains labels → Filled t D (function_section (edition_in T) domains labels) T' D'

pub record LabelSectionRead (t T D : List ℕ) (r : Result Rules Refusal) (T' D' : List ℕ) : Type 0 where
  pub answer : (domains : List ℕ) → (declared T).domains ≡ domains → r ≡ rules_weighed (label_section (edition_in T) domains t)
  pub same_tables : length T' ≡ length T
  pub same_directory : length D' ≡ length D
  pub filled : (domains : List ℕ) → (declared T).domains ≡ domains → Filled t D (label_section (edition_in T) domains) T' D'

-- What reading the whole rule set, at the beginning of t, answers and fills.
pub record RulesRead (t T D : List ℕ) (r : Result Rules Refusal) (T' D' : List ℕ) : Type 0 where
  pub answer : r ≡ rules_weighed (read_rules (edition_in T) t)
  pub same_tables : length T' ≡ length T
  pub same_directory : length D' ≡ length D
  pub directory : (R : RuleSet) (u : List ℕ) → read_rules (edition_in T) t ≡ taken R u → row_width (length R.labels) * length R.functions ≤ length D → Directory t T' D' R
