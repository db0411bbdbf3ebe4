-- Main's unfolding is a running term of its rule set (`main_running`).
use Rattle.std.specs.Prelude.{◌≡◌, Bool, true, false, cond, eqb, length, get_or}
use Rattle.std.proofs.Common.{sym, subst, eqb→eq}
use mathlib.Core.List.{List, [], ◌∷◌, ◌++◌, map}
use Prim.Native.Nat.{ℕ, zero, suc, ◌≤◌, ◌<◌}
use native.Mathlib.Omega.{arith}
use Rattle.std.proofs.Math.Decide.{ℕ_discrete}
use Rattle.std.proofs.Math.Dec.{T, eqb_refl}
use Rattle.eb3.specs.Generic.Lists.{Within}
use Rattle.eb3.specs.Expressions.{Data, Undefined, Constant, Variable, Add, Subtract, If, Now, Before, Args, Nil, Cons, Cond, Equal, Less, And, Or, Not, True}
use Rattle.eb3.specs.Terms.{Term, Done, Choice, Parallel}
use Rattle.eb3.specs.Scopes.{Scope, DataInScope, ArgsInScope, CondInScope, guard_scope}
use Rattle.eb3.specs.RuleSets.{RuleTerm, rule_internal, rule_perform, rule_sequence, rule_choice, rule_star, rule_parallel, rule_guard, choice_over, parallel_over, call, RuleSet, domain_size, sizes_of, label, process, main_process, attributes}
use Rattle.eb3.specs.Unfolding.{Valuation, argument_value, instantiate_data, instantiate_args, instantiate_cond, unfold_term, unfold_below, unfold_main}
use Rattle.eb3.proofs.Laws.Unfolding.{right_nest_keeps}
use Rattle.eb3.proofs.Laws.Elements.{within_more, within_at, arguments_within, domain_limited}
use Rattle.eb3.specs.WellFormedness.{WellFormedTerm, Running, Allowed, Form, WellFormed}

-- With constants for its variables, a guard's condition needs none.
module _ (P : Scope) (σ : Valuation) (small : (i : ℕ) → i < P.variables → get_or σ i 0 ≤ P.edition.top) where
  abbrev closed_scope : Scope
  closed_scope = record { edition = P.edition; arity = P.arity; now = P.now; before = P.before; variables = 0 }

  mutual
    unfolding instantiate_cond

    data_instantiated : (a : Data) → DataInScope a P → DataInScope (instantiate_data a σ) closed_scope
    data_instantiated Undefined w = tt
    data_instantiated (Constant n) w = w
    data_instantiated (Variable i) w = small i w
    data_instantiated (Add a b) w = (data_instantiated a w.0, data_instantiated b w.1)
    data_instantiated (Subtract a b) w = (data_instantiated a w.0, data_instantiated b w.1)
    data_instantiated (If c a b) w = (cond_instantiated c w.0, data_instantiated a w.1, data_instantiated b w.2)
    data_instantiated (Now f rs) w = (w.0, args_instantiated rs (P.arity f) w.1)
    data_instantiated (Before f rs) w = (w.0, args_instantiated rs (P.arity f) w.1)

    args_instantiated : (rs : Args) (n : ℕ) → ArgsInScope rs P n → ArgsInScope (instantiate_args rs σ) closed_scope n
    args_instantiated Nil n w = w
    args_instantiated (Cons a rs) n w = (w.0, w.1, data_instantiated a w.2, args_instantiated rs w.0 w.3)

    cond_instantiated : (c : Cond) → CondInScope c P → CondInScope (instantiate_cond c σ) closed_scope
    cond_instantiated (Equal a b) w = (data_instantiated a w.0, data_instantiated b w.1)
    cond_instantiated (Less a b) w = (data_instantiated a w.0, data_instantiated b w.1)
    cond_instantiated (And c d) w = (cond_instantiated c w.0, cond_instantiated d w.1)
    cond_instantiated (Or c d) w = (cond_instantiated c w.0, cond_instantiated d w.1)
    cond_instantiated (Not c) w = cond_instantiated c w
    cond_instantiated True w = tt

module _ (R : RuleSet) where
  module _ (small : (d : ℕ) → domain_size R d ≤ suc R.edition.top) where
    module _ (i : ℕ) (callee : ℕ → Valuation → Term) (callee_well_formed : (p : ℕ) → p < i → (vs : Valuation) → Within (sizes_of R (process R p).parameters) vs → WellFormedTerm R (callee p vs)) where
      pub unfold_well_formed : (E : RuleTerm) (Γ : List ℕ) → Allowed R i Γ E → (σ : Valuation) → Within (sizes_of R Γ) σ → WellFormedTerm R (unfold_term R callee E σ)
      unfolding unfold_term
      unfold_well_formed rule_internal Γ h σ w = tt
      unfold_well_formed (rule_perform l rs) Γ h σ w = (h.0, arguments_within R Γ σ w (label R l) rs h.1)
      unfold_well_formed (rule_sequence E F) Γ h σ w = (unfold_well_formed E Γ h.0 σ w, unfold_well_formed F Γ h.1 σ w)
      unfold_well_formed (rule_choice E F) Γ h σ w = (unfold_well_formed E Γ h.0 σ w, unfold_well_formed F Γ h.1 σ w)
      unfold_well_formed (rule_star E) Γ h σ w = unfold_well_formed E Γ h σ w
      unfold_well_formed (rule_parallel Δ E F) Γ h σ w = (h.0, unfold_well_formed E Γ h.1 σ w, unfold_well_formed F Γ h.2 σ w)
      unfold_well_formed (rule_guard c E) Γ h σ w =
          (cond_instantiated (guard_scope (attributes R) (length Γ)) σ (λ j l. omega (arith, within_at R Γ σ w j l, small (get_or Γ j 0))) c h.0, unfold_well_formed E Γ h.1 σ w)
      unfold_well_formed (choice_over d E) Γ h σ w =
          right_nest_keeps (λ E. WellFormedTerm R E) Done Choice tt (λ E F p q. (p, q)) (domain_size R d) _ (λ x l. unfold_well_formed E (Γ ++ (d ∷ [])) h.2 (σ ++ (x ∷ [])) (within_more R Γ σ d x w l))
      unfold_well_formed (parallel_over d Δ E) Γ h σ w =
          right_nest_keeps (λ E. WellFormedTerm R E) Done (Parallel Δ) tt (λ E F p q. (h.2, p, q)) (domain_size R d) _ (λ x l. unfold_well_formed E (Γ ++ (d ∷ [])) h.3 (σ ++ (x ∷ [])) (within_more R Γ σ d x w l))
      unfold_well_formed (call p rs) Γ h σ w = callee_well_formed p h.0 (map (argument_value σ) rs) (arguments_within R Γ σ w (process R p).parameters rs h.1)

    either_well_formed : (b : Bool) (E F : Term) → (T b → WellFormedTerm R E) → ((T b → ⊥) → WellFormedTerm R F) → WellFormedTerm R (cond b E F)
    either_well_formed true E F h k = h tt
    either_well_formed false E F h k = k (λ t. t)

    pub below_well_formed : (i : ℕ) → ((p : ℕ) → p < i → Allowed R p (process R p).parameters (process R p).term)
        → (p : ℕ) → p < i → (vs : Valuation) → Within (sizes_of R (process R p).parameters) vs → WellFormedTerm R (unfold_below R i p vs)
    unfolding unfold_below
    below_well_formed zero a p h vs w = let z : ⊥ = omega arith in absurd z
    below_well_formed (suc i) a p h vs w =
        either_well_formed (eqb p i) _ _
        (λ t. unfold_well_formed i (unfold_below R i) (below_well_formed i (λ q l. a q (omega arith))) (process R i).term (process R i).parameters (a i (omega arith)) vs
        (subst (λ q. Within (sizes_of R (process R q).parameters) vs) (eqb→eq p i t) w))
        (λ n. below_well_formed i (λ q l. a q (omega arith)) p (apart (ℕ_discrete p i) n) vs w)
      where
        apart : Dec (p ≡ i) → (T (eqb p i) → ⊥) → p < i
        apart (yes e) n = absurd (n (subst (λ q. T (eqb p q)) e (eqb_refl p)))
        apart (no e) n = omega arith

-- Elements of domains are numbers.
pub small_domains : (R : RuleSet) → Form R → (d : ℕ) → domain_size R d ≤ suc R.edition.top
small_domains R w d = omega (arith, domain_limited R w d, w.proper.largest.0)

pub main_running : (R : RuleSet) → WellFormed R → Running R (unfold_main R)
unfolding unfold_main
main_running R w =
    let last : suc (main_process R) ≤ length R.processes = omega (arith, w.form.process_count.0) in
    record {
      form = unfold_well_formed R (small_domains R w.form) (main_process R) (unfold_below R (main_process R))
          (below_well_formed R (small_domains R w.form) (main_process R) (λ p l. w.form.process_terms p (omega arith)))
          (process R (main_process R)).term (process R (main_process R)).parameters (w.form.process_terms (main_process R) last) []
          (subst (λ ds. Within (sizes_of R ds) []) (sym w.form.main_parameters) tt);
      reach_limit = w.reach_limit;
      breadth_limit = w.breadth_limit;
    }
