-- The cells are filled one by one: what holds of the store after some of them, and what filling one function's cells leaves.
-- Document 01, "Memory and the history machine".
use Rattle.std.specs.Prelude.{◌≡◌, List, ℕ, suc, ◌+◌, ◌*◌, ◌≤◌, ◌<◌, length, get_or}
use Rattle.std.proofs.Math.Option.{Option}
use Rattle.eb3.specs.Expressions.{Reading}
use Rattle.eb3.specs.Terms.{VisibleAction}
use Rattle.eb3.specs.Attributes.{Attributes, number_of_functions}
use Rattle.eb3.specs.Cells.{offset, total_cells, cells_up_to}
use Rattle.expressions.specs.Stores.{stored, now_place, argument_place}
use Rattle.cells.specs.Filling.{Filling}
use Rattle.cells.specs.Reads.{Begun}

-- M' is M, the store at the beginning, with its first k cells new.
pub record Partly (A : Attributes) (o : Option VisibleAction) (b : Reading) (M M' : List ℕ) (k : ℕ) : Type 0 where
  pub same_length : length M' ≡ length M
  pub begun : Begun M' now_place (cells_up_to A o b (number_of_functions A)) k
  pub kept_below : (i : ℕ) → argument_place 0 ≤ i → i < now_place → stored M' i ≡ stored M i
  pub kept_above : (i : ℕ) → now_place + total_cells A ≤ i → stored M' i ≡ stored M i

-- The cells of function f are filled next; its expression begins where `left` words of t are left.
pub record Turn (t : List ℕ) (f left : ℕ) : Type 0 where
  pub A : Attributes
  pub o : Option VisibleAction
  pub b : Reading
  pub D : List ℕ
  pub M : List ℕ
  pub w : ℕ
  pub j : ℕ
  pub n : ℕ
  pub filling : Filling A o b t D M w j n
  pub few : n ≤ 16
  pub known : f < n
  pub place : left ≡ get_or D (w * f + j) 0

-- In that turn, x cells of function f are new too.
abbrev pub Reached : {t : List ℕ} {f left : ℕ} → Turn t f left → List ℕ → ℕ → Type 0
Reached {f = f} T M' x = Partly T.A T.o T.b T.M M' (offset T.A f + x)

abbrev pub FunctionFilled : List ℕ → ℕ → ℕ → List ℕ → List ℕ → Type 0
FunctionFilled t f left m m' = (T : Turn t f left) → Reached T m 0 → Partly T.A T.o T.b T.M m' (offset T.A (suc f))
