-- What a rule set may say (document 01, "Blocks and the rule stream" and refusals 3 to 8), and what a running term of it is (refusal 10).
use Rattle.std.specs.Prelude.{◌≡◌, List, [], ◌∷◌, ◌++◌, ℕ, ◌-◌, ◌^◌, ◌≤◌, ◌<◌, min, length, get_or}
use Rattle.eb3.specs.Limits
use Rattle.eb3.specs.Generic.Lists.{Within}
use Rattle.eb3.specs.Generic.AllLists.{All}
use Rattle.eb3.specs.Expressions.{Undefined}
use Rattle.eb3.specs.Terms.{Term, Done, Internal, Perform, Sequence, Choice, Star, Parallel, Guard, Mask, Action, internal, visible}
use Rattle.eb3.specs.Attributes.{Trace}
use Rattle.eb3.specs.Scopes.{DataInScope, CondInScope, start_scope, label_scope, guard_scope}
use Rattle.eb3.specs.Sizes.{reach, breadth}
use Rattle.eb3.specs.Editions.{Defined, Proper}
use Rattle.eb3.specs.RuleSets.{Argument, constant_argument, variable_argument, RuleTerm, rule_internal, rule_perform, rule_sequence, rule_choice, rule_star, rule_parallel, rule_guard, choice_over, parallel_over, call, RuleSet, domain_size, sizes_of, label, function_rule, process, main_process, attributes}
use Rattle.eb3.specs.Unfolding.{unfold_main}

-- Word i has bits only of labels 16 × i + j below n: exactly the masks without undefined bits (Laws/Masks).
abbrev pub BitsBelow : ℕ → Mask → Type 0
BitsBelow n [] = Unit
BitsBelow n (w ∷ Δ) = (w < 2 ^ min n 16) × BitsBelow (n - 16) Δ

abbrev pub MaskFits : RuleSet → Mask → Type 0
MaskFits R Δ = (length Δ ≡ 4) × BitsBelow (length R.labels) Δ

-- A visible action has a defined label and arguments of its parameters' domains.
abbrev pub WellFormedAction : RuleSet → Action → Type 0
WellFormedAction R internal = Unit
WellFormedAction R (visible a) = (a.label < length R.labels) × Within (sizes_of R (label R a.label)) a.arguments

-- A trace of such actions.
abbrev pub WellFormedTrace : RuleSet → Trace → Type 0
WellFormedTrace R H = All (λ a. WellFormedAction R (visible a)) H

-- A term of the rule set.
abbrev pub WellFormedTerm : RuleSet → Term → Type 0
WellFormedTerm R Done = Unit
WellFormedTerm R Internal = Unit
WellFormedTerm R (Perform a) = WellFormedAction R (visible a)
WellFormedTerm R (Sequence E F) = WellFormedTerm R E × WellFormedTerm R F
WellFormedTerm R (Choice E F) = WellFormedTerm R E × WellFormedTerm R F
WellFormedTerm R (Star E) = WellFormedTerm R E
WellFormedTerm R (Parallel Δ E F) = MaskFits R Δ × WellFormedTerm R E × WellFormedTerm R F
WellFormedTerm R (Guard C E) = CondInScope C (guard_scope (attributes R) 0) × WellFormedTerm R E

-- Within 7's and 8's limits: what Count and Move may be given.
pub record Running (R : RuleSet) (E : Term) : Type 0 where
  pub form : WellFormedTerm R E
  pub reach_limit : reach R.edition.width E ≤ Limits.reach
  pub breadth_limit : breadth E ≤ Limits.breadth

-- An argument of domain d, the variables in scope given by their domains.
abbrev pub ArgumentFits : RuleSet → List ℕ → ℕ → Argument → Type 0
ArgumentFits R Γ d (constant_argument v) = v < domain_size R d
ArgumentFits R Γ d (variable_argument i) = (i < length Γ) × (get_or Γ i 0 ≡ d)

abbrev pub ArgumentsFit : RuleSet → List ℕ → List ℕ → List Argument → Type 0
ArgumentsFit R Γ [] [] = Unit
ArgumentsFit R Γ [] (r ∷ rs) = ⊥
ArgumentsFit R Γ (d ∷ ds) [] = ⊥
ArgumentsFit R Γ (d ∷ ds) (r ∷ rs) = ArgumentFits R Γ d r × ArgumentsFit R Γ ds rs

-- A term of process i, where the variables Γ are in scope: quantifiers bind the next free one, and calls name lower processes.
abbrev pub Allowed : RuleSet → ℕ → List ℕ → RuleTerm → Type 0
Allowed R i Γ rule_internal = Unit
Allowed R i Γ (rule_perform l rs) = (l < length R.labels) × ArgumentsFit R Γ (label R l) rs
Allowed R i Γ (rule_sequence E F) = Allowed R i Γ E × Allowed R i Γ F
Allowed R i Γ (rule_choice E F) = Allowed R i Γ E × Allowed R i Γ F
Allowed R i Γ (rule_star E) = Allowed R i Γ E
Allowed R i Γ (rule_parallel Δ E F) = MaskFits R Δ × Allowed R i Γ E × Allowed R i Γ F
Allowed R i Γ (rule_guard C E) = CondInScope C (guard_scope (attributes R) (length Γ)) × Allowed R i Γ E
Allowed R i Γ (choice_over d E) = (d < length R.domains) × (length Γ < Limits.variables) × Allowed R i (Γ ++ (d ∷ [])) E
Allowed R i Γ (parallel_over d Δ E) = (d < length R.domains) × (length Γ < Limits.variables) × MaskFits R Δ × Allowed R i (Γ ++ (d ∷ [])) E
Allowed R i Γ (call p rs) = (p < i) × ArgumentsFit R Γ (process R p).parameters rs

-- Numbers of domains that are defined.
abbrev pub DomainsDefined : RuleSet → List ℕ → Type 0
DomainsDefined R ds = All (λ d. d < length R.domains) ds

-- A function has parameters with domains; its expressions, one for each label, are in their scopes.
pub record FunctionFits (R : RuleSet) (f : ℕ) : Type 0 where
  pub parameter_count : (1 ≤ length (function_rule R f).parameters) × (length (function_rule R f).parameters ≤ R.edition.function_parameters)
  pub parameters : DomainsDefined R (function_rule R f).parameters
  pub at_start : DataInScope (function_rule R f).at_start (start_scope (attributes R) f)
  pub label_count : length (function_rule R f).at_label ≡ length R.labels
  pub at_label : (l : ℕ) → l < length R.labels → DataInScope (get_or (function_rule R f).at_label l Undefined) (label_scope (attributes R) f (length (label R l)))

-- What refusals 3 to 6 ask of a rule set of any proper edition.
pub record Form (R : RuleSet) : Type 0 where
  pub proper : Proper R.edition
  pub domain_count : (1 ≤ length R.domains) × (length R.domains ≤ Limits.domains)
  pub domain_sizes : (d : ℕ) → d < length R.domains → (1 ≤ domain_size R d) × (domain_size R d ≤ Limits.domain_size)
  pub label_count : (1 ≤ length R.labels) × (length R.labels ≤ Limits.labels)
  pub label_forms : (l : ℕ) → l < length R.labels → (length (label R l) ≤ Limits.label_parameters) × DomainsDefined R (label R l)
  pub function_count : length R.functions ≤ Limits.functions
  pub function_forms : (f : ℕ) → f < length R.functions → FunctionFits R f
  pub process_count : (1 ≤ length R.processes) × (length R.processes ≤ Limits.processes)
  pub process_heads : (p : ℕ) → p < length R.processes → (length (process R p).parameters ≤ Limits.process_parameters) × DomainsDefined R (process R p).parameters
  pub process_terms : (p : ℕ) → p < length R.processes → Allowed R p (process R p).parameters (process R p).term
  pub main_parameters : (process R (main_process R)).parameters ≡ []

-- And with refusals 7 and 8, which judge main's unfolding.
pub record WellFormed (R : RuleSet) : Type 0 where
  -- The edition is one that is defined (refusal 3).
  pub defined : Defined R.edition
  pub form : Form R
  pub reach_limit : reach R.edition.width (unfold_main R) ≤ Limits.reach
  pub breadth_limit : breadth (unfold_main R) ≤ Limits.breadth
