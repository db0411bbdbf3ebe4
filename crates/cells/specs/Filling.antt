-- All cells computed anew, function by function (document 01, "Memory and the history machine": at start by the empty-trace expressions, after a visible
-- move by those for its label; now reads new cells, before reads old ones).
use Rattle.std.specs.Prelude.{◌≡◌, List, [], ℕ, suc, ◌+◌, ◌*◌, ◌≤◌, ◌<◌, length, get_or}
use Rattle.std.proofs.Math.Option.{Option, none, some}
use Rattle.eb3.specs.Values.{Value}
use Rattle.eb3.specs.Expressions.{Reading, variables}
use Rattle.eb3.specs.Scopes.{Scope, DataInScope}
use Rattle.eb3.specs.Terms.{VisibleAction}
use Rattle.eb3.specs.Attributes.{Attributes, number_of_functions, function, expression}
use Rattle.eb3.specs.Cells.{total_cells, cells_up_to}
use Rattle.eb3.specs.Spelling.{data_words}
use Rattle.declarations.specs.Directory.{Stands}
use Rattle.expressions.specs.Stores.{largest_number, stored, now_place, before_place, variable_in, reading_in, argument_place, row_place}
use Rattle.expressions.specs.Answering.{Plain}
use Rattle.cells.specs.Layout.{Laid, Holds}

abbrev pub arguments_of : Option VisibleAction → List ℕ
arguments_of none = []
arguments_of (some a) = a.arguments

-- Function f's expression is at the place that the directory gives in column j of its row of w words; it may name, with now, only functions below f.
pub record Ready (A : Attributes) (o : Option VisibleAction) (b : Reading) (t D M : List ℕ) (w j f : ℕ) : Type 0 where
  pub scope : Scope
  pub plain : Plain scope
  pub names_below : scope.now ≤ f
  pub names_known : scope.before ≤ number_of_functions A
  pub variables_few : scope.variables ≤ suc (length (arguments_of o))
  pub in_scope : DataInScope (expression (function A f) o) scope
  pub stands : Stands t (get_or D (w * f + j) 0) (data_words scope.edition.width (expression (function A f) o))
  -- what before reads, as far as the expression may name it
  pub before_reads : (g : ℕ) → g < scope.before → (vs : List Value) → reading_in M (before_place M) g vs ≡ b g vs

-- A store M whose cells are to be filled for the functions A, after a last action o or at the start.
pub record Filling (A : Attributes) (o : Option VisibleAction) (b : Reading) (t D M : List ℕ) (w j n : ℕ) : Type 0 where
  pub functions : n ≡ number_of_functions A
  pub largest : A.edition.top ≡ largest_number
  pub laid : Laid A M
  pub small : (f : ℕ) → f < n → stored M (row_place f) ≤ 64
  pub room : now_place + total_cells A ≤ length M
  pub apart : now_place + total_cells A ≤ before_place M
  pub arguments_few : length (arguments_of o) ≤ 2
  pub variables_there : (i : ℕ) → i < length (arguments_of o) → variable_in M (suc i) ≡ variables (arguments_of o) i
  pub ready : (f : ℕ) → f < n → Ready A o b t D M w j f

pub record Filled (A : Attributes) (o : Option VisibleAction) (b : Reading) (M M' : List ℕ) : Type 0 where
  pub cells : Holds M' now_place (cells_up_to A o b (number_of_functions A))
  pub kept_below : (i : ℕ) → argument_place 0 ≤ i → i < now_place → stored M' i ≡ stored M i
  pub kept_above : (i : ℕ) → now_place + total_cells A ≤ i → stored M' i ≡ stored M i

-- Filling the store M, of n functions, by column j of their rows of w words in the directory D of the words t, leaves M'.
abbrev pub Fills : (t D : List ℕ) (w j n : ℕ) (M M' : List ℕ) → Type 0
Fills t D w j n M M' = (A : Attributes) (o : Option VisibleAction) (b : Reading) → Filling A o b t D M w j n → Filled A o b M M'
