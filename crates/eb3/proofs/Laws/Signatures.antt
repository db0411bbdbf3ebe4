-- A process term is read and measured by what comes before it and by no more: the edition, domains, labels, what a guard may name, and the processes'
-- parameters (`read_alike`); appended processes change nothing of the measures before them (`rows_kept`).
use Rattle.std.specs.Prelude.{◌≡◌, cond, eqb, ltb, leb, length}
use Rattle.std.proofs.Math.Path.{refl, fun_ext}
use Rattle.std.proofs.Common.{ap, sym, ◌∙◌, arith}
use mathlib.Core.List.{List, [], ◌∷◌, ◌++◌, map}
use Prim.Native.Nat.{ℕ, zero, suc, ◌+◌, ◌≤◌, ◌<◌}
use Rattle.std.proofs.Math.ListN.{get_or, get_or-map, get_or-append}
use Rattle.std.proofs.lemmas.List.{length-map}
use Rattle.std.proofs.Math.Seq.{get_or-append_seam}
use Rattle.eb3.specs.Refusal
use Rattle.eb3.specs.Scopes.{guard_scope}
use Rattle.eb3.specs.Sizes.{arguments_size}
use Rattle.eb3.specs.RuleSets.{Argument, RuleTerm, rule_internal, rule_perform, rule_sequence, rule_choice, rule_star, rule_parallel, rule_guard, choice_over, parallel_over, call, Process, RuleSet, domain_size, label, no_process, process, attributes}
use Rattle.eb3.specs.Unfolding.{right_nest}
use Rattle.eb3.specs.Measures.{Measure, nothing, leaf, sequence_of, choice_of, star_of, parallel_of, guard_of, guard_size, measure_term, table, row_of}
use Rattle.eb3.proofs.Laws.Measures.{row_of_next}
use Rattle.eb3.specs.Reading.{Read, refused, taken, Reader, pick, giving, then, both, by_number, number_in}
use Rattle.eb3.specs.ExpressionReading.{read_cond}
use Rattle.eb3.specs.TermReading.{mask_of}
use Rattle.eb3.specs.RuleReading.{argument_of, arguments_of, rule_action_of, call_of, choice_over_of, parallel_over_of, RuleKind, rule_kind, rule_by, rule_terms, read_rule_term, with_process}

abbrev pub parameter_lists : RuleSet → List (List ℕ)
parameter_lists R = map (λ (P : Process). P.parameters) R.processes

-- R and Q are equal in what comes before a process term, as far as reading the term depends on it.
pub record Alike (R Q : RuleSet) : Type 0 where
  pub same_edition : R.edition ≡ Q.edition
  pub same_domains : R.domains ≡ Q.domains
  pub same_labels : R.labels ≡ Q.labels
  pub same_guards : (n : ℕ) → guard_scope (attributes R) n ≡ guard_scope (attributes Q) n
  pub same_parameters : parameter_lists R ≡ parameter_lists Q

-- A process's parameters, from the lists of them.
parameters_at : (R : RuleSet) (p : ℕ) → (process R p).parameters ≡ get_or (parameter_lists R) p []
parameters_at R p = sym (get_or-map (λ (P : Process). P.parameters) R.processes p no_process)

process_count : (R : RuleSet) → length R.processes ≡ length (parameter_lists R)
process_count R = sym (length-map R.processes (λ (P : Process). P.parameters))

module _ (R Q : RuleSet) (a : Alike R Q) where
  sizes_alike : (d : ℕ) → domain_size R d ≡ domain_size Q d
  sizes_alike d = ap (λ ns. get_or ns d 0) a.same_domains

  argument_alike : (Γ : List ℕ) (d : ℕ) (t : List ℕ) → argument_of R Γ d t ≡ argument_of Q Γ d t
  unfolding argument_of
  argument_alike Γ d [] = refl
  argument_alike Γ d (c ∷ t) = λ i.
      pick (eqb c 1) (then (number_in (a.same_edition i).width t) λ v u. pick (leb v (a.same_edition i).top) (pick (ltb v (sizes_alike d i)) (taken (Argument.constant_argument v) u) (refused Refusal.kind)) (refused Refusal.form))
      (pick (eqb c 2) (by_number Refusal.reference (length Γ) (λ j u. pick (eqb (get_or Γ j 0) d) (taken (Argument.variable_argument j) u) (refused Refusal.kind)) t)
      (refused Refusal.form))

  arguments_alike : (Γ ds t : List ℕ) → arguments_of R Γ ds t ≡ arguments_of Q Γ ds t
  unfolding arguments_of
  arguments_alike Γ [] t = refl
  arguments_alike Γ (d ∷ ds) t = λ i. giving (λ p. p.0 ∷ p.1) (both (fun_ext (argument_alike Γ d) i) (fun_ext (arguments_alike Γ ds) i) t)

  -- A number, and the arguments that it asks for.
  asked_alike : (k : ℕ → List Argument → RuleTerm) (limit : ℕ) (ds : ℕ → List ℕ) (Γ t : List ℕ)
      → by_number Refusal.reference limit (λ n u. giving (k n) (arguments_of R Γ (ds n) u)) t ≡ by_number Refusal.reference limit (λ n u. giving (k n) (arguments_of Q Γ (ds n) u)) t
  asked_alike k limit ds Γ t = λ i. by_number Refusal.reference limit (λ n u. giving (k n) (arguments_alike Γ (ds n) u i)) t

  action_alike : (Γ t : List ℕ) → rule_action_of R Γ t ≡ rule_action_of Q Γ t
  unfolding rule_action_of
  action_alike Γ t = asked_alike rule_perform (length R.labels) (label R) Γ t
      ∙ (λ i. by_number Refusal.reference (length (a.same_labels i)) (λ l u. giving (rule_perform l) (arguments_of Q Γ (get_or (a.same_labels i) l []) u)) t)

  call_alike : (Γ t : List ℕ) → call_of R Γ t ≡ call_of Q Γ t
  unfolding call_of
  call_alike Γ t =
      let by : List (List ℕ) → Read RuleTerm = λ ls. by_number Refusal.reference (length ls) (λ p u. giving (call p) (arguments_of Q Γ (get_or ls p []) u)) t in
      asked_alike call (length R.processes) (λ p. (process R p).parameters) Γ t
      ∙ ((λ i. by_number Refusal.reference (process_count R i) (λ p u. giving (call p) (arguments_of Q Γ (parameters_at R p i) u)) t)
      ∙ (ap by a.same_parameters
      ∙ (λ i. by_number Refusal.reference (sym (process_count Q) i) (λ p u. giving (call p) (arguments_of Q Γ (sym (parameters_at Q p) i) u)) t)))

  -- One code, the operands being read by the same reader e for R and for Q.
  module _ (e : List ℕ → Reader RuleTerm) (Γ t : List ℕ) where
    by_alike : (k : RuleKind) → rule_by R e Γ k t ≡ rule_by Q e Γ k t
    unfolding choice_over_of parallel_over_of
    by_alike RuleKind.internal_step = refl
    by_alike RuleKind.action = action_alike Γ t
    by_alike RuleKind.star = refl
    by_alike RuleKind.parallel = λ i. giving (λ p. rule_parallel p.0 p.1.0 p.1.1) (both (mask_of 4 (length (a.same_labels i))) (both (e Γ) (e Γ)) t)
    by_alike RuleKind.guard = λ i. giving (λ p. rule_guard p.0 p.1) (both (read_cond (a.same_guards (length Γ) i)) (e Γ) t)
    by_alike RuleKind.choice_quantifier = λ i. by_number Refusal.reference (length (a.same_domains i)) (λ d u. giving (choice_over d) (e (Γ ++ (d ∷ [])) u)) t
    by_alike RuleKind.parallel_quantifier = λ i. by_number Refusal.reference (length (a.same_domains i)) (λ d u. giving (λ p. parallel_over d p.0 p.1) (both (mask_of 4 (length (a.same_labels i))) (e (Γ ++ (d ∷ []))) u)) t
    by_alike RuleKind.process_call = call_alike Γ t
    by_alike RuleKind.wrong = refl
    by_alike (RuleKind.pair k) = refl

  terms_at : (n : ℕ) (Γ s : List ℕ) → rule_terms R n Γ s ≡ rule_terms Q n Γ s
  unfolding rule_terms
  terms_at zero Γ s = refl
  terms_at (suc n) Γ [] = refl
  terms_at (suc n) Γ (c ∷ t) = by_alike (rule_terms R n) Γ t (rule_kind Γ c) ∙ (λ i. rule_by Q (λ Δ s. terms_at n Δ s i) Γ (rule_kind Γ c) t)

  pub read_alike : (Γ s : List ℕ) → read_rule_term R Γ s ≡ read_rule_term Q Γ s
  unfolding read_rule_term
  read_alike Γ s = terms_at (length s) Γ s

-- Measures look at the words of a constant and the domains only.
module _ (cut : ℕ → ℕ) (R Q : RuleSet) (same_edition : R.edition ≡ Q.edition) (same_domains : R.domains ≡ Q.domains) (callee : ℕ → Measure) where
  pub measure_alike : (E : RuleTerm) → measure_term cut R callee E ≡ measure_term cut Q callee E
  unfolding measure_term
  measure_alike rule_internal = refl
  measure_alike (rule_perform l rs) = λ i. leaf cut (2 + arguments_size (same_edition i).width (length rs))
  measure_alike (rule_sequence E F) = λ i. sequence_of cut (measure_alike E i) (measure_alike F i)
  measure_alike (rule_choice E F) = λ i. choice_of cut (measure_alike E i) (measure_alike F i)
  measure_alike (rule_star E) = λ i. star_of cut (measure_alike E i)
  measure_alike (rule_parallel Δ E F) = λ i. parallel_of cut Δ (measure_alike E i) (measure_alike F i)
  measure_alike (rule_guard C E) = λ i. guard_of cut (guard_size (same_edition i).width C) (measure_alike E i)
  measure_alike (choice_over d E) = λ i. right_nest (nothing cut) (choice_of cut) (get_or (same_domains i) d 0) (λ x. measure_alike E i)
  measure_alike (parallel_over d Δ E) = λ i. right_nest (nothing cut) (parallel_of cut Δ) (get_or (same_domains i) d 0) (λ x. measure_alike E i)
  measure_alike (call p rs) = refl

-- A process appended.
module _ (cut : ℕ → ℕ) (R : RuleSet) (P : Process) where
  kept_process : (p : ℕ) → p < length R.processes → process (with_process R P) p ≡ process R p
  kept_process p h = get_or-append R.processes (P ∷ []) no_process p h

  pub tables_kept : (i : ℕ) → i ≤ length R.processes → table cut (with_process R P) i ≡ table cut R i
  unfolding table
  tables_kept zero h = refl
  tables_kept (suc i) h =
      let k : table cut (with_process R P) i ≡ table cut R i = tables_kept i (omega arith) in
      λ j. k j ++ ((measure_alike cut (with_process R P) R refl refl (λ p. get_or (k j) p (nothing cut)) (kept_process i h j).term j) ∷ [])

  pub rows_kept : (i : ℕ) → i ≤ length R.processes → row_of cut (with_process R P) i ≡ row_of cut R i
  rows_kept i h = ap (λ (l : List Measure). λ p. get_or l p (nothing cut)) (tables_kept i h)

  -- The appended process is the last one; its row of measures, and the rows with it.
  own_process : process (with_process R P) (length R.processes) ≡ P
  own_process = get_or-append_seam R.processes P [] no_process

  pub own_measure : measure_term cut (with_process R P) (row_of cut (with_process R P) (length R.processes)) (process (with_process R P) (length R.processes)).term
      ≡ measure_term cut R (row_of cut R (length R.processes)) P.term
  own_measure = (λ j. measure_term cut (with_process R P) (rows_kept (length R.processes) (omega arith) j) (own_process j).term)
      ∙ measure_alike cut (with_process R P) R refl refl (row_of cut R (length R.processes)) P.term

  pub rows_grown : (p : ℕ) → row_of cut (with_process R P) (suc (length R.processes)) p
      ≡ cond (eqb p (length R.processes)) (measure_term cut R (row_of cut R (length R.processes)) P.term) (row_of cut R (length R.processes) p)
  rows_grown p = row_of_next cut (with_process R P) (length R.processes) p
      ∙ (λ j. cond (eqb p (length R.processes)) (own_measure j) (rows_kept (length R.processes) (omega arith) j p))
