-- The directory: where each function's cells begin and its expressions are, and where each process's term is, so that later steps read no part
-- of a stream twice (document 01, "Blocks and the rule stream", items 4 and 5; "Memory and the history machine": one cell for each function and
-- element of its domain, in that order). A place is said by how many words are left there.
-- Row i, of `row_width` words: how many cells function i has, and at the places in the row that are named here where they begin, and the words left at its
-- expression for the empty trace and at each label's.
use Rattle.std.specs.Prelude.{◌≡◌, List, [], ◌∷◌, ◌++◌, ℕ, suc, ◌+◌, ◌*◌, ◌%◌, length, get_or}
use Rattle.eb3.specs.Limits
use Rattle.eb3.specs.Expressions.{Data}
use Rattle.eb3.specs.RuleSets.{Function, Process, RuleSet}
use Rattle.eb3.specs.Spelling.{data_words}
use Rattle.eb3.specs.RuleSpelling.{rule_words}
use Rattle.words.specs.Checking.{last_of}
use Rattle.tables.specs.Layout.{body_at}
use Rattle.declarations.specs.Declaring.{Declares}
use Rattle.declarations.specs.Entering.{cells_of}

-- How many words a row has where there are that many labels.
abbrev pub row_width : ℕ → ℕ
row_width labels = 3 + labels

-- In a row: where the function's cells begin among all cells.
abbrev pub first_cell_in : ℕ
first_cell_in = 1

-- The words left at its expression for the empty trace.
abbrev pub at_start_in : ℕ
at_start_in = 2

-- The words left at its expression for label l.
abbrev pub at_label_in : ℕ → ℕ
at_label_in l = 3 + l

-- How many words a directory has: a row for each function, where there are the most functions and labels.
abbrev pub directory_length : ℕ
directory_length = row_width Limits.labels * Limits.functions

-- Where n words of t are left, these are first.
abbrev pub Stands : List ℕ → ℕ → List ℕ → Type 0
Stands t n spelled = (rest : List ℕ) × (last_of n t ≡ spelled ++ rest)

-- Expressions, their places in a row. Here and below a constant has `width` words.
abbrev pub Standing : ℕ → List ℕ → List ℕ → ℕ → List Data → Type 0
Standing width t D at [] = Unit
Standing width t D at (d ∷ ds) = Stands t (get_or D at 0) (data_words width d) × Standing width t D (suc at) ds

-- A function's row, where `first` cells are before its own. Numbers in the directory have 32 bits.
pub record FunctionRow (width : ℕ) (domains t D : List ℕ) (at first : ℕ) (F : Function) : Type 0 where
  pub cells : get_or D at 0 ≡ cells_of domains F
  pub begins : get_or D (at + first_cell_in) 0 ≡ first % 4294967296
  pub expressions : Standing width t D (at + at_start_in) (F.at_start ∷ F.at_label)

-- The rows, of w words each, of functions from i on.
abbrev pub FunctionRows : ℕ → List ℕ → List ℕ → List ℕ → ℕ → ℕ → ℕ → List Function → Type 0
FunctionRows width domains t D w i first [] = Unit
FunctionRows width domains t D w i first (F ∷ Fs) = FunctionRow width domains t D (w * i) first F × FunctionRows width domains t D w (suc i) (first + cells_of domains F) Fs

-- Processes from p on, by the tables T.
abbrev pub ProcessRows : ℕ → List ℕ → List ℕ → ℕ → List Process → Type 0
ProcessRows width t T p [] = Unit
ProcessRows width t T p (P ∷ Ps) = Stands t (body_at T p) (rule_words width P.term) × ProcessRows width t T (suc p) Ps

-- What the tables T and the directory D say of a rule set that is at the front of t.
pub record Directory (t T D : List ℕ) (R : RuleSet) : Type 0 where
  pub declares : Declares T R
  pub functions : FunctionRows R.edition.width R.domains t D (row_width (length R.labels)) 0 0 R.functions
  pub processes : ProcessRows R.edition.width t T 0 R.processes
