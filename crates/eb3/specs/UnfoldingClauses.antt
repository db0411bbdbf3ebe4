-- Unfolding, code by code (document 01, "Unfolding, size and breadth": "Each variable becomes a constant"; what 27, 28 and 29 become is in Laws/Unfolding), and
-- the entries of a rule set by their numbers. Proved in Laws/UnfoldingClauses.
use Rattle.std.specs.Prelude.{◌≡◌, ℕ, ◌-◌, length}
use mathlib.Core.List.{List, [], map}
use Rattle.std.proofs.Math.ListN.{get_or}
use Rattle.eb3.specs.Expressions.{Data, Undefined, Constant, Variable, Add, Subtract, If, Now, Before, Args, Nil, Cons, Cond, Equal, Less, And, Or, Not, True}
use Rattle.eb3.specs.Terms.{Internal, Perform, Sequence, Choice, Star, Parallel, Guard, Mask}
use Rattle.eb3.specs.RuleSets.{Argument, constant_argument, variable_argument, RuleTerm, rule_internal, rule_perform, rule_sequence, rule_choice, rule_star, rule_parallel, rule_guard, Function, RuleSet, domain_size, label, no_rule, function_rule, no_process, process, attributes}
use Rattle.eb3.specs.Unfolding.{Valuation, argument_value, instantiate_data, instantiate_args, instantiate_cond, unfold_in, unfold_main}

-- In process i, with the variables' values.
pub record TermsUnfolded (R : RuleSet) (i : ℕ) (E F : RuleTerm) (c : Cond) (Δ : Mask) (l : ℕ) (rs : List Argument) (σ : Valuation) : Type 0 where
  pub code_20 : unfold_in R i rule_internal σ ≡ Internal
  pub code_21 : unfold_in R i (rule_perform l rs) σ ≡ Perform (record { label = l; arguments = map (argument_value σ) rs })
  pub code_22 : unfold_in R i (rule_sequence E F) σ ≡ Sequence (unfold_in R i E σ) (unfold_in R i F σ)
  pub code_23 : unfold_in R i (rule_choice E F) σ ≡ Choice (unfold_in R i E σ) (unfold_in R i F σ)
  pub code_24 : unfold_in R i (rule_star E) σ ≡ Star (unfold_in R i E σ)
  pub code_25 : unfold_in R i (rule_parallel Δ E F) σ ≡ Parallel Δ (unfold_in R i E σ) (unfold_in R i F σ)
  pub code_26 : unfold_in R i (rule_guard c E) σ ≡ Guard (instantiate_cond c σ) (unfold_in R i E σ)
  pub argument_1 : (v : ℕ) → argument_value σ (constant_argument v) ≡ v
  pub argument_2 : (j : ℕ) → argument_value σ (variable_argument j) ≡ get_or σ j 0
  -- Main is the last process; it has no variables.
  pub main : unfold_main R ≡ unfold_in R (length R.processes - 1) (process R (length R.processes - 1)).term []

pub record ExpressionsUnfolded (σ : Valuation) (a b : Data) (c d : Cond) (rs : Args) : Type 0 where
  pub code_0 : instantiate_data Undefined σ ≡ Undefined
  pub code_1 : (n : ℕ) → instantiate_data (Constant n) σ ≡ Constant n
  pub code_2 : (i : ℕ) → instantiate_data (Variable i) σ ≡ Constant (get_or σ i 0)
  pub code_3 : instantiate_data (Add a b) σ ≡ Add (instantiate_data a σ) (instantiate_data b σ)
  pub code_4 : instantiate_data (Subtract a b) σ ≡ Subtract (instantiate_data a σ) (instantiate_data b σ)
  pub code_5 : instantiate_data (If c a b) σ ≡ If (instantiate_cond c σ) (instantiate_data a σ) (instantiate_data b σ)
  pub code_6 : (f : ℕ) → instantiate_data (Now f rs) σ ≡ Now f (instantiate_args rs σ)
  pub code_7 : (f : ℕ) → instantiate_data (Before f rs) σ ≡ Before f (instantiate_args rs σ)
  pub no_arguments : instantiate_args Nil σ ≡ Nil
  pub arguments : instantiate_args (Cons a rs) σ ≡ Cons (instantiate_data a σ) (instantiate_args rs σ)
  pub code_8 : instantiate_cond (Equal a b) σ ≡ Equal (instantiate_data a σ) (instantiate_data b σ)
  pub code_9 : instantiate_cond (Less a b) σ ≡ Less (instantiate_data a σ) (instantiate_data b σ)
  pub code_10 : instantiate_cond (And c d) σ ≡ And (instantiate_cond c σ) (instantiate_cond d σ)
  pub code_11 : instantiate_cond (Or c d) σ ≡ Or (instantiate_cond c σ) (instantiate_cond d σ)
  pub code_12 : instantiate_cond (Not c) σ ≡ Not (instantiate_cond c σ)
  pub code_13 : instantiate_cond True σ ≡ True

-- Domains, labels, functions and processes are numbered from 0, in their order; a function's values are given by its parameters' domains and its expressions.
pub record Entries (R : RuleSet) (k : ℕ) : Type 0 where
  pub domain_entry : domain_size R k ≡ get_or R.domains k 0
  pub label_entry : label R k ≡ get_or R.labels k []
  pub function_entry : function_rule R k ≡ get_or R.functions k no_rule
  pub process_entry : process R k ≡ get_or R.processes k no_process
  pub attributes_are : attributes R
      ≡ record { edition = R.edition; functions = map (λ (F : Function). record { sizes = map (domain_size R) F.parameters; at_start = F.at_start; at_label = F.at_label }) R.functions }
