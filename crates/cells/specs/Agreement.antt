-- Two environments that agree on all that an expression may name give it the same value: what its scope leaves out, it cannot read.
-- Document 01, "Memory and the history machine".
use Rattle.std.specs.Prelude.{◌≡◌, refl, not, ◌&&◌, ◌||◌, cond, List, ◌∷◌, ℕ, ◌<◌}
use Rattle.std.proofs.Common.{ap, ◌∙◌}
use Rattle.eb3.specs.Values.{Value, add, subtract, equal, less}
use Rattle.eb3.specs.Expressions.{Data, Undefined, Constant, Variable, Add, Subtract, If, Now, Before, Args, Nil, Cons, Cond, Equal, Less, And, Or, Not, True, Environment, evaluate_data, evaluate_args, evaluate_cond}
use Rattle.eb3.specs.Scopes.{Scope, DataInScope, ArgsInScope, CondInScope}

pub record Agree (P : Scope) (e e' : Environment) : Type 0 where
  pub top : e.top ≡ e'.top
  pub variable : (i : ℕ) → i < P.variables → e.variable i ≡ e'.variable i
  pub now : (g : ℕ) → g < P.now → (vs : List Value) → e.now g vs ≡ e'.now g vs
  pub before : (g : ℕ) → g < P.before → (vs : List Value) → e.before g vs ≡ e'.before g vs

module _ (P : Scope) (e e' : Environment) (h : Agree P e e') where
  mutual
    unfolding evaluate_data

    pub data_agrees : (a : Data) → DataInScope a P → evaluate_data a e ≡ evaluate_data a e'
    data_agrees Undefined w = refl
    data_agrees (Constant n) w = refl
    data_agrees (Variable i) w = h.variable i w
    data_agrees (Add a b) w = λ j. add (h.top j) (data_agrees a w.0 j) (data_agrees b w.1 j)
    data_agrees (Subtract a b) w = λ j. subtract (data_agrees a w.0 j) (data_agrees b w.1 j)
    data_agrees (If c a b) w = λ j. cond (cond_agrees c w.0 j) (data_agrees a w.1 j) (data_agrees b w.2 j)
    data_agrees (Now f rs) w = ap (e.now f) (args_agree rs (P.arity f) w.1) ∙ h.now f w.0 (evaluate_args rs e')
    data_agrees (Before f rs) w = ap (e.before f) (args_agree rs (P.arity f) w.1) ∙ h.before f w.0 (evaluate_args rs e')

    pub args_agree : (rs : Args) (n : ℕ) → ArgsInScope rs P n → evaluate_args rs e ≡ evaluate_args rs e'
    args_agree Nil n w = refl
    args_agree (Cons a rs) n w = λ j. data_agrees a w.2 j ∷ args_agree rs w.0 w.3 j

    pub cond_agrees : (c : Cond) → CondInScope c P → evaluate_cond c e ≡ evaluate_cond c e'
    cond_agrees (Equal a b) w = λ j. equal (data_agrees a w.0 j) (data_agrees b w.1 j)
    cond_agrees (Less a b) w = λ j. less (data_agrees a w.0 j) (data_agrees b w.1 j)
    cond_agrees (And c d) w = λ j. cond_agrees c w.0 j && cond_agrees d w.1 j
    cond_agrees (Or c d) w = λ j. cond_agrees c w.0 j || cond_agrees d w.1 j
    cond_agrees (Not c) w = ap not (cond_agrees c w)
    cond_agrees True w = refl
