-- The clauses of unfolding hold (`terms_unfolded`, `expressions_unfolded`, `entries`; document 01, "Unfolding, size and breadth").
use Rattle.std.specs.Prelude.{refl, List, ℕ}
use Rattle.eb3.specs.Expressions.{Data, Args, Cond}
use Rattle.eb3.specs.Terms.{Mask}
use Rattle.eb3.specs.RuleSets.{Argument, RuleTerm, RuleSet}
use Rattle.eb3.specs.Unfolding.{Valuation, argument_value, instantiate_data, unfold_term, unfold_main}
use Rattle.eb3.specs.UnfoldingClauses.{TermsUnfolded, ExpressionsUnfolded, Entries}

pub terms_unfolded : (R : RuleSet) (i : ℕ) (E F : RuleTerm) (c : Cond) (Δ : Mask) (l : ℕ) (rs : List Argument) (σ : Valuation) → TermsUnfolded R i E F c Δ l rs σ
unfolding unfold_term argument_value unfold_main
terms_unfolded R i E F c Δ l rs σ = record {
  code_20 = refl;
  code_21 = refl;
  code_22 = refl;
  code_23 = refl;
  code_24 = refl;
  code_25 = refl;
  code_26 = refl;
  argument_1 = λ v. refl;
  argument_2 = λ j. refl;
  main = refl;
}

pub expressions_unfolded : (σ : Valuation) (a b : Data) (c d : Cond) (rs : Args) → ExpressionsUnfolded σ a b c d rs
unfolding instantiate_data
expressions_unfolded σ a b c d rs = record {
  code_0 = refl;
  code_1 = λ n. refl;
  code_2 = λ i. refl;
  code_3 = refl;
  code_4 = refl;
  code_5 = refl;
  code_6 = λ f. refl;
  code_7 = λ f. refl;
  no_arguments = refl;
  arguments = refl;
  code_8 = refl;
  code_9 = refl;
  code_10 = refl;
  code_11 = refl;
  code_12 = refl;
  code_13 = refl;
}

pub entries : (R : RuleSet) (k : ℕ) → Entries R k
entries R k = record {
  domain_entry = refl;
  label_entry = refl;
  function_entry = refl;
  process_entry = refl;
  attributes_are = refl;
}
