-- Which words say what, code by code, of every expression, term and rule set (document 01, "Values and conditions", "Blocks and the rule stream", and 30 for
-- done). A constant has w words, low first: one word in edition 1. Proved in Laws/Codes.
use Rattle.std.specs.Prelude.{◌≡◌, false, List, [], ◌∷◌, ◌++◌, ℕ, suc, ◌/◌, ◌%◌, length}
use Rattle.eb3.specs.Generic.Lists.{concat_map}
use Rattle.eb3.specs.Expressions.{Data, Undefined, Constant, Variable, Add, Subtract, If, Now, Before, Args, Nil, Cons, Cond, Equal, Less, And, Or, Not, True}
use Rattle.eb3.specs.Terms.{Term, Done, Internal, Perform, Sequence, Choice, Star, Parallel, Guard, Mask}
use Rattle.eb3.specs.RuleSets.{Argument, constant_argument, variable_argument, RuleTerm, rule_internal, rule_perform, rule_sequence, rule_choice, rule_star, rule_parallel, rule_guard, choice_over, parallel_over, call, Function, Process, RuleSet}
use Rattle.eb3.specs.Spelling.{number_words, data_words, args_words, cond_words, arguments_words, words}
use Rattle.eb3.specs.RuleSpelling.{argument_words, rule_words, function_words, process_words, functions_words, rules_words}

pub record NumberWords : Type 0 where
  pub one : (n : ℕ) → number_words 1 n ≡ n ∷ []
  pub more : (w n : ℕ) → number_words (suc (suc w)) n ≡ n % 65536 ∷ number_words (suc w) (n / 65536)

module _ (w : ℕ) where
  pub record ExpressionCodes (a b : Data) (c d : Cond) (rs : Args) : Type 0 where
    pub code_0 : data_words w Undefined ≡ 0 ∷ []
    pub code_1 : (n : ℕ) → data_words w (Constant n) ≡ 1 ∷ number_words w n
    pub code_2 : (i : ℕ) → data_words w (Variable i) ≡ 2 ∷ i ∷ []
    pub code_3 : data_words w (Add a b) ≡ 3 ∷ (data_words w a ++ data_words w b)
    pub code_4 : data_words w (Subtract a b) ≡ 4 ∷ (data_words w a ++ data_words w b)
    pub code_5 : data_words w (If c a b) ≡ 5 ∷ (cond_words w c ++ (data_words w a ++ data_words w b))
    pub code_6 : (f : ℕ) → data_words w (Now f rs) ≡ 6 ∷ f ∷ args_words w rs
    pub code_7 : (f : ℕ) → data_words w (Before f rs) ≡ 7 ∷ f ∷ args_words w rs
    pub no_arguments : args_words w Nil ≡ []
    pub arguments : args_words w (Cons a rs) ≡ data_words w a ++ args_words w rs
    pub code_8 : cond_words w (Equal a b) ≡ 8 ∷ (data_words w a ++ data_words w b)
    pub code_9 : cond_words w (Less a b) ≡ 9 ∷ (data_words w a ++ data_words w b)
    pub code_10 : cond_words w (And c d) ≡ 10 ∷ (cond_words w c ++ cond_words w d)
    pub code_11 : cond_words w (Or c d) ≡ 11 ∷ (cond_words w c ++ cond_words w d)
    pub code_12 : cond_words w (Not c) ≡ 12 ∷ cond_words w c
    pub code_13 : cond_words w True ≡ 13 ∷ []

  -- A running term.
  pub record TermCodes (E F : Term) (c : Cond) (Δ : Mask) (vs : List ℕ) : Type 0 where
    pub code_20 : words w Internal ≡ 20 ∷ []
    pub code_21 : (l : ℕ) → words w (Perform (record { label = l; arguments = vs })) ≡ 21 ∷ l ∷ arguments_words w vs
    pub no_arguments : arguments_words w [] ≡ []
    pub arguments : (v : ℕ) → arguments_words w (v ∷ vs) ≡ 1 ∷ (number_words w v ++ arguments_words w vs)
    pub code_22 : words w (Sequence E F) ≡ 22 ∷ (words w E ++ words w F)
    pub code_23 : words w (Choice E F) ≡ 23 ∷ (words w E ++ words w F)
    pub code_24 : words w (Star E) ≡ 24 ∷ words w E
    pub code_25 : words w (Parallel Δ E F) ≡ 25 ∷ (Δ ++ (words w E ++ words w F))
    pub code_26 : words w (Guard c E) ≡ 26 ∷ (cond_words w c ++ words w E)
    pub code_30 : words w Done ≡ 30 ∷ []

  -- A term of a process.
  pub record RuleCodes (E F : RuleTerm) (c : Cond) (Δ : Mask) (rs : List Argument) : Type 0 where
    pub argument_1 : (v : ℕ) → argument_words w (constant_argument v) ≡ 1 ∷ number_words w v
    pub argument_2 : (i : ℕ) → argument_words w (variable_argument i) ≡ 2 ∷ i ∷ []
    pub code_20 : rule_words w rule_internal ≡ 20 ∷ []
    pub code_21 : (l : ℕ) → rule_words w (rule_perform l rs) ≡ 21 ∷ l ∷ concat_map (argument_words w) rs
    pub code_22 : rule_words w (rule_sequence E F) ≡ 22 ∷ (rule_words w E ++ rule_words w F)
    pub code_23 : rule_words w (rule_choice E F) ≡ 23 ∷ (rule_words w E ++ rule_words w F)
    pub code_24 : rule_words w (rule_star E) ≡ 24 ∷ rule_words w E
    pub code_25 : rule_words w (rule_parallel Δ E F) ≡ 25 ∷ (Δ ++ (rule_words w E ++ rule_words w F))
    pub code_26 : rule_words w (rule_guard c E) ≡ 26 ∷ (cond_words w c ++ rule_words w E)
    pub code_27 : (k : ℕ) → rule_words w (choice_over k E) ≡ 27 ∷ k ∷ rule_words w E
    pub code_28 : (k : ℕ) → rule_words w (parallel_over k Δ E) ≡ 28 ∷ k ∷ (Δ ++ rule_words w E)
    pub code_29 : (p : ℕ) → rule_words w (call p rs) ≡ 29 ∷ p ∷ concat_map (argument_words w) rs

-- A count, then what it counts, each as its own words.
abbrev pub counted : {A : Type 0} → (A → List ℕ) → List A → List ℕ
counted spell xs = length xs ∷ concat_map spell xs

abbrev pub alone : ℕ → List ℕ
alone n = n ∷ []

-- The stream's items 2 to 5; where the edition does not write functions' parameter counts (edition 1), a function is its parameter's domain and its
-- expressions.
pub record SectionWords (R : RuleSet) (F : Function) (P : Process) : Type 0 where
  pub sections : rules_words R
      ≡ counted alone R.domains ++ (counted (counted alone) R.labels ++ (functions_words R.edition R.functions ++ counted (process_words R.edition.width) R.processes))
  pub functions_in_edition_1 : functions_words (record { number = 1; top = 65534; width = 1; function_parameters = 1; counts_written = false }) R.functions ≡ counted (function_words 1) R.functions
  pub function : function_words R.edition.width F ≡ concat_map alone F.parameters ++ (data_words R.edition.width F.at_start ++ concat_map (data_words R.edition.width) F.at_label)
  pub process : process_words R.edition.width P ≡ counted alone P.parameters ++ rule_words R.edition.width P.term
