-- Laws of reading process terms, over any rule set: what is left is an end of the words (`term_ends`), and the reader is its own step, since a depth
-- of more codes than words changes nothing (`term_case`).
-- Document 01, "Blocks and the rule stream", item 5; "Unfolding, size and breadth".
use Prim.Native.Nat.{ℕ, zero, suc, ◌≤◌}
use Rattle.std.proofs.Common.{le_refl, le_trans, le_of_suc-le-suc, not-suc-le-zero, ◌∙◌}
use Rattle.std.specs.Prelude.{◌≡◌, length, drop, get_or}
use Rattle.std.proofs.Math.Path.{refl, ap}
use mathlib.Core.List.{List, [], ◌∷◌, ◌++◌}
use Rattle.eb3.specs.Scopes.{guard_scope}
use Rattle.eb3.specs.RuleSets.{Argument, RuleTerm, rule_perform, rule_star, rule_parallel, rule_guard, choice_over, parallel_over, call, RuleSet, label, process, attributes}
use Rattle.eb3.specs.Reading.{Reader, giving, both, by_number}
use Rattle.eb3.specs.ExpressionReading.{read_cond}
use Rattle.eb3.specs.RuleReading.{arguments_of, rule_action_of, call_of, rule_mask_of, choice_over_of, parallel_over_of, RuleKind, rule_kind, rule_by, rule_terms, read_rule_term}
use Rattle.words.specs.Ends.{Ends, Same}
use Rattle.words.specs.Laws.Checking.{tail_here, giving_fine, both_ends, step_fine, both_same, by_number_ends, by_number_same}
use Rattle.expression_check.specs.Laws.Reading.{cond_ends}
use Rattle.tables.specs.Laws.Tables.{mask_ends, arguments_end}

-- ── ends ──

-- A number, and the arguments that it asks for.
asked_ends : (R : RuleSet) (Γ : List ℕ) (k : ℕ → List Argument → RuleTerm) (limit : ℕ) (ds : ℕ → List ℕ) → Ends (by_number 5 limit (λ n u. giving (k n) (arguments_of R Γ (ds n) u)))
asked_ends R Γ k limit ds = by_number_ends 5 limit (λ n u. giving (k n) (arguments_of R Γ (ds n) u)) (λ n u. giving_fine (k n) u (arguments_of R Γ (ds n) u) (arguments_end R Γ (ds n) u))

pub action_ends : (R : RuleSet) (Γ : List ℕ) → Ends (rule_action_of R Γ)
unfolding rule_action_of
action_ends R Γ = asked_ends R Γ rule_perform (length R.labels) (label R)

pub call_ends : (R : RuleSet) (Γ : List ℕ) → Ends (call_of R Γ)
unfolding call_of
call_ends R Γ = asked_ends R Γ call (length R.processes) (λ p. (process R p).parameters)

pub rule_mask_ends : (R : RuleSet) → Ends (rule_mask_of R)
rule_mask_ends R = mask_ends 4 (length R.labels)

-- Of a reader of operands that reads to an end.
module _ (R : RuleSet) (e : List ℕ → Reader RuleTerm) (d : (Γ : List ℕ) → Ends (e Γ)) (Γ : List ℕ) where
  choice_over_ends : Ends (choice_over_of R e Γ)
  unfolding choice_over_of
  choice_over_ends = by_number_ends 5 (length R.domains) (λ l u. giving (choice_over l) (e (Γ ++ (l ∷ [])) u)) (λ l u. giving_fine (choice_over l) u (e (Γ ++ (l ∷ [])) u) (d (Γ ++ (l ∷ [])) u))

  parallel_over_ends : Ends (parallel_over_of R e Γ)
  unfolding parallel_over_of
  parallel_over_ends = by_number_ends 5 (length R.domains) (λ l u. giving (λ p. parallel_over l p.0 p.1) (both (rule_mask_of R) (e (Γ ++ (l ∷ []))) u))
      (λ l u. giving_fine (λ p. parallel_over l p.0 p.1) u (both (rule_mask_of R) (e (Γ ++ (l ∷ []))) u) (both_ends (rule_mask_of R) (e (Γ ++ (l ∷ []))) (rule_mask_ends R) (d (Γ ++ (l ∷ []))) u))

  pub by_ends : (k : RuleKind) → Ends (rule_by R e Γ k)
  by_ends RuleKind.internal_step t = tail_here t
  by_ends RuleKind.action t = action_ends R Γ t
  by_ends (RuleKind.pair k) t = giving_fine (λ p. k p.0 p.1) t (both (e Γ) (e Γ) t) (both_ends (e Γ) (e Γ) (d Γ) (d Γ) t)
  by_ends RuleKind.star t = giving_fine rule_star t (e Γ t) (d Γ t)
  by_ends RuleKind.parallel t = giving_fine (λ p. rule_parallel p.0 p.1.0 p.1.1) t (both (rule_mask_of R) (both (e Γ) (e Γ)) t) (both_ends (rule_mask_of R) (both (e Γ) (e Γ)) (rule_mask_ends R) (both_ends (e Γ) (e Γ) (d Γ) (d Γ)) t)
  by_ends RuleKind.guard t =
      let C : Reader _ = read_cond (guard_scope (attributes R) (length Γ)) in
      giving_fine (λ p. rule_guard p.0 p.1) t (both C (e Γ) t) (both_ends C (e Γ) (cond_ends (guard_scope (attributes R) (length Γ))) (d Γ) t)
  by_ends RuleKind.choice_quantifier t = choice_over_ends t
  by_ends RuleKind.parallel_quantifier t = parallel_over_ends t
  by_ends RuleKind.process_call t = call_ends R Γ t
  by_ends RuleKind.wrong t = tt

terms_end : (R : RuleSet) (n : ℕ) (Γ : List ℕ) → Ends (rule_terms R n Γ)
unfolding rule_terms
terms_end R zero Γ s = tt
terms_end R (suc n) Γ [] = tt
terms_end R (suc n) Γ (w ∷ t) = step_fine w t (rule_by R (rule_terms R n) Γ (rule_kind Γ w) t) (by_ends R (rule_terms R n) (terms_end R n) Γ (rule_kind Γ w) t)

pub term_ends : (R : RuleSet) (Γ : List ℕ) → Ends (read_rule_term R Γ)
unfolding read_rule_term
term_ends R Γ s = terms_end R (length s) Γ s

-- ── agreement ──

module _ (R : RuleSet) (e f : List ℕ → Reader RuleTerm) (d : (Γ : List ℕ) → Ends (e Γ)) (Γ t : List ℕ) (h : (Δ : List ℕ) → Same t (e Δ) (f Δ)) where
  two_same : Same t (both (e Γ) (e Γ)) (both (f Γ) (f Γ))
  two_same = both_same t (e Γ) (f Γ) (e Γ) (f Γ) (d Γ) (h Γ) (h Γ)

  -- a mask, and then what is read by g or g'
  masked_same : {B : Type 0} (g g' : Reader B) → Same t g g' → Same t (both (rule_mask_of R) g) (both (rule_mask_of R) g')
  masked_same g g' i = both_same t (rule_mask_of R) (rule_mask_of R) g g' (rule_mask_ends R) (λ r le. refl) i

  by_same : (k : RuleKind) → rule_by R e Γ k t ≡ rule_by R f Γ k t
  unfolding choice_over_of parallel_over_of
  by_same RuleKind.internal_step = refl
  by_same RuleKind.action = refl
  by_same (RuleKind.pair k) = ap (giving _) (two_same t (le_refl (length t)))
  by_same RuleKind.star = ap (giving rule_star) (h Γ t (le_refl (length t)))
  by_same RuleKind.parallel = ap (giving _) (masked_same (both (e Γ) (e Γ)) (both (f Γ) (f Γ)) two_same t (le_refl (length t)))
  by_same RuleKind.guard =
      let P = guard_scope (attributes R) (length Γ) in
      ap (giving _) (both_same t (read_cond P) (read_cond P) (e Γ) (f Γ) (cond_ends P) (λ r le. refl) (h Γ) t (le_refl (length t)))
  by_same RuleKind.choice_quantifier = by_number_same t 5 (length R.domains) _ _ (λ l r le. ap (giving (choice_over l)) (h (Γ ++ (l ∷ [])) r le)) t (le_refl (length t))
  by_same RuleKind.parallel_quantifier =
      by_number_same t 5 (length R.domains) _ _ (λ l r le. ap (giving (λ p. parallel_over l p.0 p.1)) (masked_same (e (Γ ++ (l ∷ []))) (f (Γ ++ (l ∷ []))) (h (Γ ++ (l ∷ []))) r le)) t (le_refl (length t))
  by_same RuleKind.process_call = refl
  by_same RuleKind.wrong = refl

module _ (R : RuleSet) where
  enough : (n m : ℕ) (Γ s : List ℕ) → length s ≤ n → length s ≤ m → rule_terms R n Γ s ≡ rule_terms R m Γ s
  unfolding rule_terms
  enough zero zero Γ [] p q = refl
  enough zero (suc m) Γ [] p q = refl
  enough (suc n) zero Γ [] p q = refl
  enough (suc n) (suc m) Γ [] p q = refl
  enough zero m Γ (w ∷ t) p q = absurd (not-suc-le-zero p)
  enough (suc n) zero Γ (w ∷ t) p q = absurd (not-suc-le-zero q)
  enough (suc n) (suc m) Γ (w ∷ t) p q =
      by_same R (rule_terms R n) (rule_terms R m) (terms_end R n) Γ t (λ Δ r le. enough n m Δ r (le_trans le (le_of_suc-le-suc p)) (le_trans le (le_of_suc-le-suc q))) (rule_kind Γ w)

  to_whole : (t Γ : List ℕ) → Same t (rule_terms R (length t) Γ) (read_rule_term R Γ)
  unfolding read_rule_term
  to_whole t Γ r le = enough (length t) (length r) Γ r le (le_refl (length r))

  -- The code at the beginning says by which case the whole term is read.
  pub term_case : (Γ s : List ℕ) (k : RuleKind) → (length s ≡ 0 → ⊥) → rule_kind Γ (get_or s 0 0) ≡ k → read_rule_term R Γ s ≡ rule_by R (read_rule_term R) Γ k (drop 1 s)
  unfolding read_rule_term rule_terms
  term_case Γ [] k h e = absurd (h refl)
  term_case Γ (w ∷ t) k h e =
      by_same R (rule_terms R (length t)) (read_rule_term R) (terms_end R (length t)) Γ t (to_whole t) (rule_kind Γ w) ∙ ap (λ j. rule_by R (read_rule_term R) Γ j t) e
