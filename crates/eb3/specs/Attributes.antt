-- Attribute functions and their values over a trace (document 01, "Memory and the history machine"; source 002, figure 1).
use Rattle.std.specs.Prelude.{Bool, cond, List, [], ◌∷◌, ◌++◌, ℕ, zero, suc, eqb, ltb, length, get_or}
use Rattle.std.proofs.Math.Option.{Option, none, some}
use Rattle.eb3.specs.Values.{Value, undefined, number}
use Rattle.eb3.specs.Expressions.{Data, Undefined, Cond, Reading, no_reading, environment, evaluate_data, evaluate_cond}
use Rattle.eb3.specs.Terms.{VisibleAction}
use Rattle.eb3.specs.Editions.{Edition}

-- A function: its parameters' domain sizes (one in edition 1), its expression for the empty trace, and one for each label.
pub record AttributeFunction : Type 0 where
  pub sizes : List ℕ
  pub at_start : Data
  pub at_label : List Data

-- The part of a rule set that gives attributes their values: its edition, whose largest number bounds them, and its functions.
pub record Attributes : Type 0 where
  pub edition : Edition
  pub functions : List AttributeFunction

abbrev pub number_of_functions : Attributes → ℕ
number_of_functions A = length A.functions

-- A function that is not defined has no element in its domain.
abbrev pub no_function : AttributeFunction
no_function = record { sizes = zero ∷ []; at_start = Undefined; at_label = [] }

unfoldable pub function : Attributes → ℕ → AttributeFunction
function A f = get_or A.functions f no_function

abbrev pub domain : Attributes → ℕ → List ℕ
domain A f = (function A f).sizes

-- A trace, its last action first.
abbrev pub Trace : Type 0
Trace = List VisibleAction

abbrev pub last_action : Trace → Option VisibleAction
last_action [] = none
last_action (a ∷ H) = some a

-- A partial function's value: undefined if an argument is undefined or outside its domain.
unfoldable pub apply_in_domain : List ℕ → (List ℕ → Value) → List Value → Value
apply_in_domain [] h [] = h []
apply_in_domain [] h (v ∷ vs) = undefined
apply_in_domain (n ∷ ns) h [] = undefined
apply_in_domain (n ∷ ns) h (undefined ∷ vs) = undefined
apply_in_domain (n ∷ ns) h (number x ∷ vs) = cond (ltb x n) (apply_in_domain ns (λ xs. h (x ∷ xs)) vs) undefined

abbrev pub expression : AttributeFunction → Option VisibleAction → Data
expression F none = F.at_start
expression F (some a) = get_or F.at_label a.label Undefined

-- The function's variables come first, the label's follow.
abbrev pub variables_in_scope : List ℕ → Option VisibleAction → List ℕ
variables_in_scope xs none = xs
variables_in_scope xs (some a) = xs ++ a.arguments

-- Function f at xs after a last action, or at the start: its expression, with what now and before read.
unfoldable pub evaluate : Attributes → Option VisibleAction → Reading → Reading → ℕ → List ℕ → Value
evaluate A o now before f xs = evaluate_data (expression (function A f) o) (environment A.edition.top (variables_in_scope xs o) now before)

-- A guard reads values now; it has no variables, and before does not occur in it.
unfoldable pub guard_holds : Attributes → Reading → Cond → Bool
guard_holds A now C = evaluate_cond C (environment A.edition.top [] now no_reading)

-- What function i may read now: the functions below it, whose values are made by the same recursion.
unfoldable pub now_below : Attributes → Option VisibleAction → Reading → ℕ → Reading
now_below A o before zero g vs = undefined
now_below A o before (suc i) g vs = cond (eqb g i) (apply_in_domain (domain A i) (evaluate A o (now_below A o before i) before i) vs) (now_below A o before i g vs)

-- The values over the trace without its last action; there is no such trace for the empty one.
unfoldable pub before_values : Attributes → Trace → Reading
before_values A [] g vs = undefined
before_values A (a ∷ H) g vs =
    apply_in_domain (domain A g) (evaluate A (last_action H) (now_below A (last_action H) (before_values A H) g) (before_values A H) g) vs

-- Function f's value at xs over a trace. Document 01's own equations for it are `value_empty` and `value_last` (Laws/Attributes).
unfoldable pub attribute_value : Attributes → Trace → ℕ → List ℕ → Value
attribute_value A H f xs = evaluate A (last_action H) (now_below A (last_action H) (before_values A H) f) (before_values A H) f xs

-- The same as a reading.
unfoldable pub value_at : Attributes → Trace → Reading
value_at A H f vs = apply_in_domain (domain A f) (attribute_value A H f) vs
