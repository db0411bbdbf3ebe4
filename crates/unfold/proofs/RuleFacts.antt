-- What the tables say of a rule set that is ready to be unfolded, and what its form says of its terms' variables and expressions.
use mathlib.Core.Path.{◌≡◌, refl, sym, ap, ◌∙◌, subst}
use mathlib.Core.List.{List, [], ◌∷◌}
use Prim.Native.Nat.{ℕ, zero, suc, ◌+◌, ◌<◌}
use native.Mathlib.Omega.{arith}
use lib.ListN.{length, get_or, length-map, get_or-map}
use Rattle.eb3.specs.Expressions.{Data, Undefined, Constant, Variable, Add, Subtract, If, Now, Before, Args, Nil, Cons, Cond, Equal, Less, And, Or, Not, True}
use Rattle.eb3.specs.Scopes.{Scope, DataInScope, ArgsInScope, CondInScope, guard_scope}
use Rattle.eb3.specs.RuleSets.{Argument, Process, RuleSet, domain_size, label, no_process, process, attributes}
use Rattle.eb3.specs.RuleSpelling.{rule_words}
use Rattle.eb3.specs.WellFormedness.{ArgumentsFit}
use Rattle.tables.specs.Layout.{label_place, process_place, process_count, body_at}
use Rattle.tables.specs.Tables.{row, declared}
use Rattle.tables.specs.Laws.Tables.{labels_length, label_at, processes_length, process_at}
use Rattle.declarations.specs.Declaring.{Declares}
use Rattle.declarations.specs.Laws.Declaring.{arity_is_one}
use Rattle.declarations.specs.Directory.{Stands, ProcessRows}
use Rattle.unfold.specs.Unfolded.{Ready}
use Rattle.unfold.specs.Instantiation.{NoArguments, PlainData, PlainArgs, PlainCond}

-- ── the tables ──

module _ (t T : List ℕ) (R : RuleSet) (ready : Ready t T R) where
  pub domain_same : (d : ℕ) → domain_size (declared T) d ≡ domain_size R d
  domain_same d = ap (λ l. get_or l d 0) ready.declares.tables.heads.same_domains

  pub label_row : (l : ℕ) → l < length R.labels → row T (label_place l) ≡ label R l
  label_row l h =
      let same = ready.declares.tables.heads.same_labels in
      sym (label_at T l (omega (arith, labels_length T, ap length same))) ∙ ap (λ ls. get_or ls l []) same

  pub processes_there : process_count T ≡ length R.processes
  processes_there =
      sym (processes_length T) ∙ sym (length-map (declared T).processes (λ (P : Process). P.parameters)) ∙ ap length ready.declares.same_processes ∙ length-map R.processes (λ (P : Process). P.parameters)

  pub parameters_row : (p : ℕ) → p < length R.processes → row T (process_place p) ≡ (process R p).parameters
  parameters_row p h =
      sym (process_at T p (omega (arith, processes_there)))
      ∙ (sym (get_or-map (λ (P : Process). P.parameters) (declared T).processes p no_process) ∙ ap (λ l. get_or l p []) ready.declares.same_processes ∙ get_or-map (λ (P : Process). P.parameters) R.processes p no_process)

  standing : (Ps : List Process) (q p : ℕ) → ProcessRows R.edition.width t T q Ps → p < length Ps → Stands t (body_at T (q + p)) (rule_words R.edition.width (get_or Ps p no_process).term)
  standing [] q p h l = absurd (let z : ⊥ = omega arith in z)
  standing (P ∷ Ps) q zero h l = subst (λ k. Stands t (body_at T k) (rule_words R.edition.width P.term)) (let z : q ≡ q + 0 = omega arith in z) h.0
  standing (P ∷ Ps) q (suc p) h l =
      subst (λ k. Stands t (body_at T k) (rule_words R.edition.width (get_or Ps p no_process).term)) (let z : suc q + p ≡ q + suc p = omega arith in z) (standing Ps (suc q) p h.1 (omega arith))

  pub body_stands : (p : ℕ) → p < length R.processes → Stands t (body_at T p) (rule_words R.edition.width (process R p).term)
  body_stands p h = subst (λ k. Stands t (body_at T k) (rule_words R.edition.width (process R p).term)) (let z : 0 + p ≡ p = omega arith in z) (standing R.processes 0 p ready.processes h)

-- ── functions of one argument ──

module _ (P : Scope) (one : (f : ℕ) → P.arity f ≡ 1) where
  mutual
    data_plain : (a : Data) → DataInScope a P → PlainData a
    data_plain Undefined h = tt
    data_plain (Constant n) h = tt
    data_plain (Variable i) h = tt
    data_plain (Add a b) h = (data_plain a h.0, data_plain b h.1)
    data_plain (Subtract a b) h = (data_plain a h.0, data_plain b h.1)
    data_plain (If c a b) h = (cond_plain c h.0, data_plain a h.1, data_plain b h.2)
    data_plain (Now f rs) h = args_plain rs (P.arity f) (one f) h.1
    data_plain (Before f rs) h = args_plain rs (P.arity f) (one f) h.1

    args_plain : (rs : Args) (n : ℕ) → n ≡ 1 → ArgsInScope rs P n → PlainArgs rs
    args_plain Nil n e h = let z : ⊥ = omega arith in absurd z
    args_plain (Cons a rs) n e h = (data_plain a h.2, args_none rs h.0 (let z : h.0 ≡ 0 = omega (arith, h.1) in z) h.3)

    args_none : (rs : Args) (n : ℕ) → n ≡ 0 → ArgsInScope rs P n → NoArguments rs
    args_none Nil n e h = tt
    args_none (Cons a rs) n e h = let z : ⊥ = omega (arith, h.1) in z

    cond_plain : (c : Cond) → CondInScope c P → PlainCond c
    cond_plain (Equal a b) h = (data_plain a h.0, data_plain b h.1)
    cond_plain (Less a b) h = (data_plain a h.0, data_plain b h.1)
    cond_plain (And c d) h = (cond_plain c h.0, cond_plain d h.1)
    cond_plain (Or c d) h = (cond_plain c h.0, cond_plain d h.1)
    cond_plain (Not c) h = cond_plain c h
    cond_plain True h = tt

pub guard_plain : (T : List ℕ) (R : RuleSet) → Declares T R → (n : ℕ) (c : Cond) → CondInScope c (guard_scope (attributes R) n) → PlainCond c
guard_plain T R d n c h = cond_plain (guard_scope (attributes R) n) (arity_is_one R d.tables.one_parameter) c h

-- ── arguments ──

module _ (R : RuleSet) where
  pub arguments_counted : (Γ ds : List ℕ) (rs : List Argument) → ArgumentsFit R Γ ds rs → length rs ≡ length ds
  arguments_counted Γ [] [] h = refl
  arguments_counted Γ [] (r ∷ rs) h = absurd h
  arguments_counted Γ (d ∷ ds) [] h = absurd h
  arguments_counted Γ (d ∷ ds) (r ∷ rs) h = ap suc (arguments_counted Γ ds rs h.1)
