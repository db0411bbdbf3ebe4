-- The memory of a rule set in a store: loaded, made at the start, and renewed by an action (document 01, "Memory and the history machine").
use Rattle.std.specs.Prelude.{◌≡◌, List, ℕ, ◌+◌, ◌*◌, ◌≤◌, length}
use Rattle.eb3.specs.Values.{Value}
use Rattle.eb3.specs.Terms.{Action}
use Rattle.eb3.specs.Cells.{total_cells, initial_cells}
use Rattle.eb3.specs.Values.{ValuesAtMost}
use Rattle.eb3.specs.RuleSets.{RuleSet, attributes}
use Rattle.eb3.specs.WellFormedness.{WellFormedAction, Form}
use Rattle.eb3.specs.Derivations.{state_after}
use Rattle.eb3.specs.Semantics.{Sem_M}
use Rattle.eb3.specs.Memory.{cell_room}
use Rattle.eb3.specs.Operations.{cells_given}
use Rattle.declarations.specs.Directory.{Directory, row_width}
use Rattle.expressions.specs.Stores.{largest_number, now_place, before_place}
use Rattle.actions.specs.Codes.{action_code}
use Rattle.cells.specs.Layout.{Laid, Holds}

-- The store M holds these cells of the rule set R, and has room for as many old ones after them.
pub record Stored (R : RuleSet) (cells : List Value) (M : List ℕ) : Type 0 where
  pub laid : Laid (attributes R) M
  pub holds : Holds M now_place cells
  pub counted : length cells ≡ total_cells (attributes R)
  pub at_most : ValuesAtMost largest_number cells
  pub old_place : before_place M ≡ now_place + total_cells (attributes R)
  pub room : now_place + 2 * total_cells (attributes R) ≤ length M

-- The stream, tables and directory of a rule set, w words a row, n functions, c cells.
pub record Ruled (R : RuleSet) (t T D : List ℕ) (w n c : ℕ) : Type 0 where
  pub form : Form R
  pub directory : Directory t T D R
  pub width_is : w ≡ row_width (length R.labels)
  pub functions_are : n ≡ length R.functions
  pub cells_are : c ≡ total_cells (attributes R)

-- Of a memory B of enough cells.
abbrev pub StoreLoaded : List ℕ → List ℕ → List ℕ → List ℕ → ℕ → ℕ → ℕ → Type 0
StoreLoaded D B M M' w n c = (R : RuleSet) (t T : List ℕ) → Ruled R t T D w n c → c ≤ cell_room B → now_place + 2 * c ≤ length M → Stored R (cells_given R B) M'

-- At the start.
abbrev pub StoreStarted : List ℕ → List ℕ → List ℕ → List ℕ → ℕ → ℕ → ℕ → Type 0
StoreStarted t D M M' w n c = (R : RuleSet) (T : List ℕ) → Ruled R t T D w n c → now_place + 2 * c ≤ length M → Stored R (initial_cells (attributes R)) M'

-- By an action: an internal one changes nothing, a visible one computes all cells anew.
abbrev pub StoreRenewed : List ℕ → List ℕ → List ℕ → List ℕ → ℕ → ℕ → ℕ → ℕ → Type 0
StoreRenewed t D M M' w n c code = (R : RuleSet) (T : List ℕ) → Ruled R t T D w n c → (ρ : Action) → WellFormedAction R ρ → code ≡ action_code ρ
    → (cells : List Value) → Stored R cells M → Stored R (state_after (Sem_M (attributes R)) cells ρ) M'
