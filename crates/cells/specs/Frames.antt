-- The cells of one function computed anew, where most of them keep their values (document 01, "Memory and the history machine": a visible move
-- computes all cells anew, now reads new cells, before reads old ones). An element keeps its value where the expression is before f(x0), or where it asks
-- whether x0 is the element that an argument of the action names, and x0 is another.
use Rattle.std.specs.Prelude.{◌≡◌, Bool, true, List, ◌↔◌, ℕ, suc, ◌+◌, ◌≤◌, ◌<◌, length}
use Rattle.eb3.specs.Expressions.{Data, Variable, If, Now, Before, Nil, Cons, Equal}
use Rattle.eb3.specs.Scopes.{Scope}
use Rattle.words.specs.Checking.{last_of}
use Rattle.expressions.specs.Stores.{stored, row_place, now_place, begin_place}
use Rattle.expressions.specs.Answering.{DataAt}
use Rattle.cells.specs.Turns.{FunctionFilled}

-- ── expressions ──

-- before f(x0): the element's value of function f without the last action.
abbrev pub kept_value : ℕ → Data
kept_value f = Before f (Cons (Variable 0) Nil)

-- What names an element with no help of x0: a variable after it, or function g's value of one, now or before.
pub data Naming : Type 0 where
  argument : ℕ → Naming
  value_now : ℕ → ℕ → Naming
  value_before : ℕ → ℕ → Naming

abbrev pub naming : Naming → Data
naming (argument i) = Variable (suc i)
naming (value_now g i) = Now g (Cons (Variable (suc i)) Nil)
naming (value_before g i) = Before g (Cons (Variable (suc i)) Nil)

-- The expression asks whether x0 is the element named, and has a value for it and one for the others.
pub record AsksOne (d : Data) : Type 0 where
  pub named : Naming
  pub yes_value : Data
  pub no_value : Data
  pub asked : d ≡ If (Equal (Variable 0) (naming named)) yes_value no_value

-- r says whether Q holds of the expression at the beginning of s.
abbrev pub Tells : Bool → List ℕ → (Data → Type 0) → Type 0
Tells r s Q = (P : Scope) (d : Data) (rest : List ℕ) → DataAt s P d rest → (r ≡ true) ↔ Q d

-- ── cells ──

-- The k words from `at` on are those of m from `from` on, where `at` isn't after `from`; all other words are kept.
pub record Copied (m m' : List ℕ) (from at k : ℕ) : Type 0 where
  pub same_length : length m' ≡ length m
  pub copies : at ≤ from → (x : ℕ) → x < k → stored m' (at + x) ≡ stored m (from + x)
  pub kept_below : (i : ℕ) → i < at → stored m' i ≡ stored m i
  pub kept_above : (i : ℕ) → at + k ≤ i → stored m' i ≡ stored m i

-- `Copied`, and the k words are also right where every word that is read is before every word that is written.
pub record CopiedApart (m m' : List ℕ) (from at k : ℕ) : Type 0 where
  pub copied : Copied m m' from at k
  pub copies_up : from + k ≤ at → (x : ℕ) → x < k → stored m' (at + x) ≡ stored m (from + x)

-- Function f's expression is at the beginning of s, and m holds its k cells from `at` on.
pub record Placed (t : List ℕ) (f left : ℕ) (s m : List ℕ) (at k : ℕ) : Type 0 where
  pub expression_at : s ≡ last_of left t
  pub size : k ≡ stored m (row_place f)
  pub begin : at ≡ now_place + stored m (begin_place f)

-- After this, the cells of `Placed` are new, in whichever stream t the words s are the last words.
abbrev pub NewCells : ℕ → List ℕ → ℕ → ℕ → List ℕ → List ℕ → Type 0
NewCells f s at k m m' = (t : List ℕ) (left : ℕ) → Placed t f left s m at k → FunctionFilled t f left m m'
