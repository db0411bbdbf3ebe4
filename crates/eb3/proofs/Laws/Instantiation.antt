-- "Each variable becomes a constant" (document 01, "Unfolding, size and breadth"; its words are in UnfoldingClauses): an expression whose variables became
-- constants has the value that it has with the variables' values, so a guard of the unfolding holds exactly if the written one does (`guard_instance`).
use Rattle.std.specs.Prelude.{◌≡◌, refl, not, ◌&&◌, ◌||◌, cond, [], ◌∷◌, ℕ, zero, suc, ◌≤◌, ◌<◌, length, get_or}
use Rattle.std.proofs.Common.{ap, arith}
use Rattle.eb3.specs.Values.{number, add, subtract, equal, less}
use Rattle.eb3.specs.Expressions.{Data, Undefined, Constant, Variable, Add, Subtract, If, Now, Before, Args, Nil, Cons, Cond, Equal, Less, And, Or, Not, True, Reading, no_reading, Environment, variables, environment, evaluate_data, evaluate_args, evaluate_cond}
use Rattle.eb3.specs.Attributes.{Attributes, guard_holds}
use Rattle.eb3.specs.Scopes.{Scope, DataInScope, ArgsInScope, CondInScope, guard_scope}
use Rattle.eb3.specs.Unfolding.{Valuation, instantiate_data, instantiate_args, instantiate_cond}

variable_value : (σ : Valuation) (i : ℕ) → i < length σ → number (get_or σ i 0) ≡ variables σ i
unfolding variables
variable_value [] i h = let z : ⊥ = omega arith in absurd z
variable_value (x ∷ σ) zero h = refl
variable_value (x ∷ σ) (suc i) h = variable_value σ i (omega arith)

module _ (P : Scope) (σ : Valuation) (all : P.variables ≤ length σ) (top : ℕ) (now before : Reading) where
  abbrev e : Environment
  e = environment top [] now before

  abbrev e' : Environment
  e' = environment top σ now before

  mutual
    unfolding evaluate_data instantiate_data

    pub data_instance : (a : Data) → DataInScope a P → evaluate_data (instantiate_data a σ) e ≡ evaluate_data a e'
    data_instance Undefined w = refl
    data_instance (Constant n) w = refl
    data_instance (Variable i) w = variable_value σ i (omega arith)
    data_instance (Add a b) w = λ j. add top (data_instance a w.0 j) (data_instance b w.1 j)
    data_instance (Subtract a b) w = λ j. subtract (data_instance a w.0 j) (data_instance b w.1 j)
    data_instance (If c a b) w = λ j. cond (cond_instance c w.0 j) (data_instance a w.1 j) (data_instance b w.2 j)
    data_instance (Now f rs) w = ap (now f) (args_instance rs (P.arity f) w.1)
    data_instance (Before f rs) w = ap (before f) (args_instance rs (P.arity f) w.1)

    args_instance : (rs : Args) (n : ℕ) → ArgsInScope rs P n → evaluate_args (instantiate_args rs σ) e ≡ evaluate_args rs e'
    args_instance Nil n w = refl
    args_instance (Cons a rs) n w = λ j. data_instance a w.2 j ∷ args_instance rs w.0 w.3 j

    pub cond_instance : (c : Cond) → CondInScope c P → evaluate_cond (instantiate_cond c σ) e ≡ evaluate_cond c e'
    cond_instance (Equal a b) w = λ j. equal (data_instance a w.0 j) (data_instance b w.1 j)
    cond_instance (Less a b) w = λ j. less (data_instance a w.0 j) (data_instance b w.1 j)
    cond_instance (And c d) w = λ j. cond_instance c w.0 j && cond_instance d w.1 j
    cond_instance (Or c d) w = λ j. cond_instance c w.0 j || cond_instance d w.1 j
    cond_instance (Not c) w = ap not (cond_instance c w)
    cond_instance True w = refl

pub guard_instance : (A : Attributes) (now : Reading) (σ : Valuation) (C : Cond) → CondInScope C (guard_scope A (length σ))
    → guard_holds A now (instantiate_cond C σ) ≡ evaluate_cond C (environment A.edition.top σ now no_reading)
unfolding guard_holds
guard_instance A now σ C w = cond_instance (guard_scope A (length σ)) σ (omega arith) A.edition.top now no_reading C w
