-- What an expression may say at its place in a rule set (document 01, "Blocks and the rule stream", item 4, and the guards of item 5).
use Rattle.std.specs.Prelude.{◌≡◌, ℕ, suc, ◌+◌, ◌≤◌, ◌<◌, length, get_or}
use Rattle.eb3.specs.Expressions.{Data, Undefined, Constant, Variable, Add, Subtract, If, Now, Before, Args, Nil, Cons, Cond, Equal, Less, And, Or, Not, True}
use Rattle.eb3.specs.Attributes.{Attributes, function, domain, number_of_functions}
use Rattle.eb3.specs.Editions.{Edition}

-- The edition, which says the largest constant and how many words it has; each function's parameter count; the functions that now and before may name (those
-- below these numbers), and how many variables there are. Where before may name none, its code does not occur.
pub record Scope : Type 0 where
  pub edition : Edition
  pub arity : ℕ → ℕ
  pub now : ℕ
  pub before : ℕ
  pub variables : ℕ

abbrev mutual
  pub DataInScope : Data → Scope → Type 0
  DataInScope Undefined P = Unit
  DataInScope (Constant n) P = n ≤ P.edition.top
  DataInScope (Variable i) P = i < P.variables
  DataInScope (Add a b) P = DataInScope a P × DataInScope b P
  DataInScope (Subtract a b) P = DataInScope a P × DataInScope b P
  DataInScope (If c a b) P = CondInScope c P × DataInScope a P × DataInScope b P
  DataInScope (Now f rs) P = (f < P.now) × ArgsInScope rs P (P.arity f)
  DataInScope (Before f rs) P = (f < P.before) × ArgsInScope rs P (P.arity f)

  pub ArgsInScope : Args → Scope → ℕ → Type 0
  ArgsInScope Nil P n = n ≡ 0
  ArgsInScope (Cons a rs) P n = (m : ℕ) × (n ≡ suc m) × DataInScope a P × ArgsInScope rs P m

  pub CondInScope : Cond → Scope → Type 0
  CondInScope (Equal a b) P = DataInScope a P × DataInScope b P
  CondInScope (Less a b) P = DataInScope a P × DataInScope b P
  CondInScope (And c d) P = CondInScope c P × CondInScope d P
  CondInScope (Or c d) P = CondInScope c P × CondInScope d P
  CondInScope (Not c) P = CondInScope c P
  CondInScope True P = Unit

-- A function's parameter count.
abbrev pub arities : Attributes → ℕ → ℕ
arities A f = length (domain A f)

-- In function f, now names functions below f; before may name any function, but does not occur in the empty-trace expression.
abbrev pub start_scope : Attributes → ℕ → Scope
start_scope A f = record { edition = A.edition; arity = arities A; now = f; before = 0; variables = arities A f }

-- The function's variables come first, then the label's, of which there are n.
abbrev pub label_scope : Attributes → ℕ → ℕ → Scope
label_scope A f n = record { edition = A.edition; arity = arities A; now = f; before = number_of_functions A; variables = arities A f + n }

-- A guard names any function now and none before; n variables are in scope.
abbrev pub guard_scope : Attributes → ℕ → Scope
guard_scope A n = record { edition = A.edition; arity = arities A; now = number_of_functions A; before = 0; variables = n }

-- All functions' expressions are in their scopes; label l has `parameters l` parameters.
pub record ExpressionsInScope (A : Attributes) (parameters : ℕ → ℕ) : Type 0 where
  pub at_start : (f : ℕ) → f < number_of_functions A → DataInScope (function A f).at_start (start_scope A f)
  pub at_label : (f l : ℕ) → f < number_of_functions A → DataInScope (get_or (function A f).at_label l Undefined) (label_scope A f (parameters l))
