-- What every code means, in every environment (document 01, "Values and conditions"): data 0 to 7, conditions 8 to 13 by truth tables, and functions at
-- arguments that are undefined or outside their domain; and what environments, traces and memories give ("Memory and the history machine"). Sums,
-- differences and comparisons of values are in Laws/Values (`Arithmetic`). Proved in Laws/Meanings.
use Rattle.std.specs.Prelude.{◌≡◌, Bool, true, false, List, [], ◌∷◌, map, ℕ, ◌+◌, ◌≤◌, length, get_or}
use Rattle.std.proofs.Math.Option.{some}
use Rattle.std.proofs.Math.ListN.{get_elem?}
use Rattle.eb3.specs.Generic.Lists.{Within}
use Rattle.eb3.specs.Values.{Value, undefined, number, add, subtract, equal, less}
use Rattle.eb3.specs.Expressions.{Data, Undefined, Constant, Variable, Add, Subtract, If, Now, Before, Args, Nil, Cons, Cond, Equal, Less, And, Or, Not, True, Reading, no_reading, Environment, environment, evaluate_data, evaluate_args, evaluate_cond}
use Rattle.eb3.specs.Terms.{Term, internal, visible, VisibleAction}
use Rattle.eb3.specs.Derivations.{DataState, Step}
use Rattle.eb3.specs.Attributes.{Attributes, domain, Trace, apply_in_domain, attribute_value, value_at}
use Rattle.eb3.specs.Cells.{cell_index, offset, cell_at, renew}
use Rattle.eb3.specs.Semantics.{Sem_T, Sem_M}

module _ (e : Environment) where
  abbrev pub value : Data → Value
  value a = evaluate_data a e

  -- Condition c has the truth value b.
  abbrev pub Has : Cond → Bool → Type 0
  Has c b = evaluate_cond c e ≡ b

  pub record DataMeanings (a b : Data) (c : Cond) : Type 0 where
    pub code_0 : value Undefined ≡ undefined
    pub code_1 : (n : ℕ) → value (Constant n) ≡ number n
    pub code_2 : (i : ℕ) → value (Variable i) ≡ e.variable i
    pub code_3 : value (Add a b) ≡ add e.top (value a) (value b)
    pub code_4 : value (Subtract a b) ≡ subtract (value a) (value b)
    -- The first data where the condition holds, else the second.
    pub code_5_holds : Has c true → value (If c a b) ≡ value a
    pub code_5_fails : Has c false → value (If c a b) ≡ value b
    -- Function f's value now, or before, at its arguments' values, in their order.
    pub code_6 : (f : ℕ) (rs : Args) → value (Now f rs) ≡ e.now f (evaluate_args rs e)
    pub code_7 : (f : ℕ) (rs : Args) → value (Before f rs) ≡ e.before f (evaluate_args rs e)
    pub no_arguments : evaluate_args Nil e ≡ []
    pub arguments : (rs : Args) → evaluate_args (Cons a rs) e ≡ value a ∷ evaluate_args rs e

  pub record ConditionMeanings (a b : Data) (c d : Cond) : Type 0 where
    pub code_8 : Has (Equal a b) (equal (value a) (value b))
    pub code_9 : Has (Less a b) (less (value a) (value b))
    --                       c            d            c and d
    pub code_10_1 : Has c true → Has d true → Has (And c d) true
    pub code_10_2 : Has c true → Has d false → Has (And c d) false
    pub code_10_3 : Has c false → Has d true → Has (And c d) false
    pub code_10_4 : Has c false → Has d false → Has (And c d) false
    --                       c            d            c or d
    pub code_11_1 : Has c true → Has d true → Has (Or c d) true
    pub code_11_2 : Has c true → Has d false → Has (Or c d) true
    pub code_11_3 : Has c false → Has d true → Has (Or c d) true
    pub code_11_4 : Has c false → Has d false → Has (Or c d) false
    --                       c            not c
    pub code_12_1 : Has c true → Has (Not c) false
    pub code_12_2 : Has c false → Has (Not c) true
    pub code_13 : Has True true

-- Arguments of which one is undefined, or not below its domain's size.
pub data Outside : List ℕ → List Value → Type 0 where
  undefined_first : {n : ℕ} {ns : List ℕ} {vs : List Value} → Outside (n ∷ ns) (undefined ∷ vs)
  too_large_first : {n x : ℕ} {ns : List ℕ} {vs : List Value} → n ≤ x → Outside (n ∷ ns) (number x ∷ vs)
  later : {n : ℕ} {v : Value} {ns : List ℕ} {vs : List Value} → Outside ns vs → Outside (n ∷ ns) (v ∷ vs)

-- h at arguments of domains of these sizes, one or several: its value at elements, else undefined.
pub record DomainMeanings (ns : List ℕ) (h : List ℕ → Value) : Type 0 where
  pub at_elements : (xs : List ℕ) → Within ns xs → apply_in_domain ns h (map number xs) ≡ h xs
  pub outside : (vs : List Value) → length vs ≡ length ns → Outside ns vs → apply_in_domain ns h vs ≡ undefined

-- ── where expressions are evaluated ──

-- Variable i is number i of those given; one that is not given is undefined.
pub record EnvironmentMeanings (top : ℕ) (xs : List ℕ) (now before : Reading) : Type 0 where
  pub largest : (environment top xs now before).top ≡ top
  pub reads_now : (environment top xs now before).now ≡ now
  pub reads_before : (environment top xs now before).before ≡ before
  pub variable_given : (i x : ℕ) → get_elem? xs i ≡ some x → (environment top xs now before).variable i ≡ number x
  pub variable_missing : (i : ℕ) → length xs ≤ i → (environment top xs now before).variable i ≡ undefined

-- Function f's value at an element, over a trace and from a memory; outside its domain it is undefined.
pub record ReadingMeanings (A : Attributes) (T : Trace) (M : List Value) (f : ℕ) : Type 0 where
  pub value_at_elements : (xs : List ℕ) → Within (domain A f) xs → value_at A T f (map number xs) ≡ attribute_value A T f xs
  pub value_outside : (vs : List Value) → length vs ≡ length (domain A f) → Outside (domain A f) vs → value_at A T f vs ≡ undefined
  pub cell_at_elements : (xs : List ℕ) → Within (domain A f) xs → cell_at A M f (map number xs) ≡ get_or M (offset A f + cell_index (domain A f) xs) undefined
  pub cell_outside : (vs : List Value) → length vs ≡ length (domain A f) → Outside (domain A f) vs → cell_at A M f vs ≡ undefined

-- The two semantics: what a visible action does to the history and to the cells, and what a guard reads.
pub record StateMeanings (A : Attributes) (T : Trace) (M : List Value) (C : Cond) (a : VisibleAction) : Type 0 where
  pub history_appended : (Sem_T A).update T a ≡ a ∷ T
  pub history_guard : (Sem_T A).satisfies T C ≡ evaluate_cond C (environment A.edition.top [] (value_at A T) no_reading)
  pub cells_renewed : (Sem_M A).update M a ≡ renew A M a
  pub cells_guard : (Sem_M A).satisfies M C ≡ evaluate_cond C (environment A.edition.top [] (cell_at A M) no_reading)

-- In every derivation a visible action updates the state once, and an internal one keeps it.
pub record StepStates (S : DataState) (M M' : S.State) (E E' : Term) : Type 0 where
  pub visible_updates : (a : VisibleAction) → Step S M E (visible a) E' M' → M' ≡ S.update M a
  pub internal_keeps : Step S M E internal E' M' → M' ≡ M
