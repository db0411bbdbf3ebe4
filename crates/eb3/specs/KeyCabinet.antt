-- The key cabinet of document 01 ("Examples"): its rule set is well-formed, its figures, and the printed session; and the copies of P11's choice
-- as rule sets.
use Rattle.std.specs.Prelude.{◌≡◌, refl, List, [], ◌∷◌, map, ℕ, zero, suc, ◌≤◌, ◌<◌, length, get_or}
use Rattle.std.proofs.Common.{arith}
use Rattle.eb3.specs.Generic.Lists.{same_list}
use Rattle.eb3.specs.Values.{number, equal}
use Rattle.eb3.specs.Expressions.{Data, Undefined, Constant, Variable, If, Now, Before, Nil, Cons, Equal, variables, evaluate_data}
use Rattle.eb3.specs.Terms.{Term, Perform, Sequence, Star, Parallel, Guard, Action, internal, visible, bit, in_mask, done?, same_action}
use Rattle.eb3.specs.Moves.{moves}
use Rattle.eb3.specs.Derivations.{state_after}
use Rattle.eb3.specs.Attributes.{function, apply_in_domain, evaluate, guard_holds}
use Rattle.eb3.specs.Cells.{cell_count, cell_index, offset, total_cells, cell_at, concat_tabulate, tabulate, cells_up_to, initial_cells, renew}
use Rattle.eb3.specs.Scopes.{DataInScope, label_scope}
use Rattle.eb3.specs.TransitionSystems.{took_visible, refused, step, run, outcomes}
use Rattle.eb3.specs.Semantics.{Sem_M, system}
use Rattle.eb3.specs.Machines.{Machine, memory_start, memory_run}
use Rattle.eb3.specs.Sizes.{cond_size, arguments_size, size, reach, breadth, zero_mask, parallel_breadth}
use Rattle.eb3.specs.Editions.{edition_1, edition_of}
use Rattle.eb3.specs.RuleSets.{variable_argument, rule_perform, rule_sequence, rule_choice, rule_star, rule_guard, parallel_over, Process, RuleSet, domain_size, label, process, attributes}
use Rattle.eb3.specs.Unfolding.{argument_value, instantiate_cond, right_nest, unfold_term, unfold_below, unfold_main}
use Rattle.eb3.specs.Measures.{whole, sat, measure_term, table, measure_main}
use Rattle.eb3.specs.WellFormedness.{DomainsDefined, Allowed, FunctionFits, WellFormed}
use Rattle.eb3.specs.Examples.{mask_zero, mask_a}

-- Out: 0 at start, v for the key taken or brought, else before.
abbrev out_or : ℕ → Data
out_or v = If (Equal (Variable 0) (Variable 1)) (Constant v) (Before 0 (Cons (Variable 0) Nil))

-- Main, the one process: each key's life, for all keys.
abbrev all_keys : Process
all_keys = record {
  parameters = [];
  term = parallel_over 0 mask_zero (rule_star (rule_sequence (rule_guard (Equal (Now 0 (Cons (Variable 0) Nil)) (Constant 0)) (rule_perform 0 (variable_argument 0 ∷ []))) (rule_perform 1 (variable_argument 0 ∷ []))));
}

abbrev pub cabinet_of : ℕ → RuleSet
cabinet_of keys = record {
  edition = edition_1;
  domains = keys ∷ [];
  labels = (0 ∷ []) ∷ (0 ∷ []) ∷ [];
  functions = record { parameters = 0 ∷ []; at_start = Constant 0; at_label = out_or 1 ∷ out_or 0 ∷ [] } ∷ [];
  processes = all_keys ∷ [];
}

abbrev pub cabinet : RuleSet
cabinet = cabinet_of 2

abbrev take : ℕ → Action
take k = visible (record { label = 0; arguments = k ∷ [] })

abbrev bring : ℕ → Action
bring k = visible (record { label = 1; arguments = k ∷ [] })

abbrev pub key : ℕ → Term
key k = Star (Sequence (Guard (Equal (Now 0 (Cons (Constant k) Nil)) (Constant 0)) (Perform (record { label = 0; arguments = k ∷ [] }))) (Perform (record { label = 1; arguments = k ∷ [] })))

abbrev both : Term
both = Parallel mask_zero (key 0) (key 1)

pub cabinet_unfolds : unfold_main cabinet ≡ both
unfolding unfold_main unfold_below unfold_term right_nest argument_value instantiate_cond
cabinet_unfolds = refl

-- C 2, G 77, W 4, start size 41.
pub cabinet_figures : (total_cells (attributes cabinet) ≡ 2) × (reach 1 both ≡ 77) × (breadth both ≡ 4) × (size 1 both ≡ 41)
unfolding offset cell_count function size reach breadth parallel_breadth zero_mask cond_size arguments_size
cabinet_figures = (refl, refl, refl, refl)

pub cabinet_measures : measure_main whole cabinet ≡ record { size = 41; reach = 77; breadth = 4 }
unfolding measure_main measure_term table right_nest cond_size arguments_size zero_mask instantiate_cond
cabinet_measures = refl

-- The printed session, for numbers 1, 9: cells, then the listed moves' actions, at the start and after each number; and what each number did.
abbrev actions_listed : Machine (Sem_M (attributes cabinet)) → List Action
actions_listed c = map (λ x. x.action) ((system (Sem_M (attributes cabinet))).transitions c.state)

abbrev after : List ℕ → Machine (Sem_M (attributes cabinet))
after ks = memory_run (attributes cabinet) both ks

pub record Session : Type 0 where
  pub cells_0 : (after []).state.state ≡ number 0 ∷ number 0 ∷ []
  pub moves_0 : actions_listed (after []) ≡ internal ∷ take 0 ∷ internal ∷ take 1 ∷ []
  pub cells_1 : (after (1 ∷ [])).state.state ≡ number 1 ∷ number 0 ∷ []
  pub moves_1 : actions_listed (after (1 ∷ [])) ≡ bring 0 ∷ internal ∷ take 1 ∷ []
  pub choices : outcomes (system (Sem_M (attributes cabinet))) (memory_start (attributes cabinet) both).state (1 ∷ 9 ∷ []) ≡ took_visible ∷ refused ∷ []
  pub counts : ((after (1 ∷ 9 ∷ [])).visible_count ≡ 1) × ((after (1 ∷ 9 ∷ [])).internal_count ≡ 0) × ((after (1 ∷ 9 ∷ [])).refused_count ≡ 1)

pub session : Session
unfolding memory_run run step outcomes initial_cells renew cells_up_to cell_at tabulate concat_tabulate cell_index cell_count offset function apply_in_domain evaluate evaluate_data variables guard_holds equal moves done? in_mask bit same_action same_list state_after
session = record { cells_0 = refl; moves_0 = refl; cells_1 = refl; moves_1 = refl; choices = refl; counts = (refl, refl, refl) }

-- Copies of P11's choice as rule sets: saturated numbers decide as the true ones do.
abbrev pub copies : ℕ → RuleSet
copies n = record {
  edition = edition_1;
  domains = n ∷ [];
  labels = [] ∷ [] ∷ [];
  functions = [];
  processes = record { parameters = []; term = parallel_over 0 mask_a (rule_choice (rule_perform 0 []) (rule_perform 0 [])) } ∷ [];
}

pub copies_measures : ((measure_main whole (copies 10)).breadth ≡ 59048) × ((measure_main whole (copies 11)).breadth ≡ 177146)
    × ((measure_main (sat 65536) (copies 11)).breadth ≡ 65536) × ((measure_main (sat 65536) (copies 64)).breadth ≡ 65536)
unfolding measure_main measure_term table right_nest zero_mask arguments_size
copies_measures = (refl, refl, refl, refl)

-- The cabinet is well-formed: what a rule set must have can be had.
at_one : (P : ℕ → Type 0) → P 0 → (d : ℕ) → d < 1 → P d
at_one P p zero h = p
at_one P p (suc d) h = let z : ⊥ = omega arith in absurd z

at_two : (P : ℕ → Type 0) → P 0 → P 1 → (d : ℕ) → d < 2 → P d
at_two P p q zero h = p
at_two P p q (suc zero) h = q
at_two P p q (suc (suc d)) h = let z : ⊥ = omega arith in absurd z

out_fits : FunctionFits cabinet 0
unfolding function
out_fits = record {
  parameter_count = (omega arith, omega arith);
  parameters = (omega arith, tt);
  at_start = omega arith;
  label_count = refl;
  at_label = at_two (λ l. DataInScope (get_or (out_or 1 ∷ out_or 0 ∷ []) l Undefined) (label_scope (attributes cabinet) 0 (length (label cabinet l))))
      ((omega arith, omega arith), omega arith, (omega arith, (0, refl, omega arith, refl)))
      ((omega arith, omega arith), omega arith, (omega arith, (0, refl, omega arith, refl)));
}

pub cabinet_well_formed : WellFormed cabinet
unfolding edition_of function unfold_main unfold_below unfold_term right_nest argument_value instantiate_cond size reach breadth parallel_breadth zero_mask cond_size arguments_size
cabinet_well_formed = record {
  defined = refl;
  form = record {
    proper = record { numbered = (omega arith, omega arith); largest = (omega arith, omega arith); constants = (omega arith, omega arith); parameters = (omega arith, omega arith); one_each = λ e. refl };
    domain_count = (omega arith, omega arith);
    domain_sizes = at_one (λ d. (1 ≤ domain_size cabinet d) × (domain_size cabinet d ≤ 64)) (omega arith, omega arith);
    label_count = (omega arith, omega arith);
    label_forms = at_two (λ l. (length (label cabinet l) ≤ 2) × DomainsDefined cabinet (label cabinet l)) (omega arith, (omega arith, tt)) (omega arith, (omega arith, tt));
    function_count = omega arith;
    function_forms = at_one (λ f. FunctionFits cabinet f) out_fits;
    process_count = (omega arith, omega arith);
    process_heads = at_one (λ p. (length (process cabinet p).parameters ≤ 4) × DomainsDefined cabinet (process cabinet p).parameters) (omega arith, tt);
    process_terms = at_one (λ p. Allowed cabinet p (process cabinet p).parameters (process cabinet p).term) (
      omega arith,
      omega arith,
      (refl, (omega arith, (omega arith, (omega arith, (omega arith, tt))))),
      ((((omega arith, (0, refl, omega arith, refl)), omega arith), (omega arith, ((omega arith, refl), tt))), (omega arith, ((omega arith, refl), tt))),
    );
    main_parameters = refl;
  };
  reach_limit = omega arith;
  breadth_limit = omega arith;
}
