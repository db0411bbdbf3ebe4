-- The codes are these (`number_codes`, `expression_codes`, `term_codes`, `rule_codes`, `section_words`; document 01, "Values and conditions" and "Blocks
-- and the rule stream").
use Rattle.std.specs.Prelude.{refl, List, ℕ}
use Rattle.eb3.specs.Expressions.{Data, Args, Cond}
use Rattle.eb3.specs.Terms.{Term, Mask}
use Rattle.eb3.specs.RuleSets.{Argument, RuleTerm, Function, Process, RuleSet}
use Rattle.eb3.specs.Spelling.{number_words, data_words, arguments_words, words}
use Rattle.eb3.specs.RuleSpelling.{argument_words, rule_words, function_words, process_words, functions_words, rules_words}
use Rattle.eb3.specs.Codes.{NumberWords, ExpressionCodes, TermCodes, RuleCodes, SectionWords}

pub number_codes : NumberWords
unfolding number_words
number_codes = record { one = λ n. refl; more = λ w n. refl }

pub expression_codes : (w : ℕ) (a b : Data) (c d : Cond) (rs : Args) → ExpressionCodes w a b c d rs
unfolding data_words
expression_codes w a b c d rs = record {
  code_0 = refl;
  code_1 = λ n. refl;
  code_2 = λ i. refl;
  code_3 = refl;
  code_4 = refl;
  code_5 = refl;
  code_6 = λ f. refl;
  code_7 = λ f. refl;
  no_arguments = refl;
  arguments = refl;
  code_8 = refl;
  code_9 = refl;
  code_10 = refl;
  code_11 = refl;
  code_12 = refl;
  code_13 = refl;
}

pub term_codes : (w : ℕ) (E F : Term) (c : Cond) (Δ : Mask) (vs : List ℕ) → TermCodes w E F c Δ vs
unfolding words arguments_words
term_codes w E F c Δ vs = record {
  code_20 = refl;
  code_21 = λ l. refl;
  no_arguments = refl;
  arguments = λ v. refl;
  code_22 = refl;
  code_23 = refl;
  code_24 = refl;
  code_25 = refl;
  code_26 = refl;
  code_30 = refl;
}

pub rule_codes : (w : ℕ) (E F : RuleTerm) (c : Cond) (Δ : Mask) (rs : List Argument) → RuleCodes w E F c Δ rs
unfolding rule_words argument_words
rule_codes w E F c Δ rs = record {
  argument_1 = λ v. refl;
  argument_2 = λ i. refl;
  code_20 = refl;
  code_21 = λ l. refl;
  code_22 = refl;
  code_23 = refl;
  code_24 = refl;
  code_25 = refl;
  code_26 = refl;
  code_27 = λ k. refl;
  code_28 = λ k. refl;
  code_29 = λ p. refl;
}

pub section_words : (R : RuleSet) (F : Function) (P : Process) → SectionWords R F P
unfolding rules_words functions_words function_words process_words
section_words R F P = record { sections = refl; functions_in_edition_1 = refl; function = refl; process = refl }
