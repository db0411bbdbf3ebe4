-- A case for each way that the checks of a guard and of the quantifiers return. The premises have the form of the facts known there.
use Prim.Native.Nat.{ℕ, ◌-◌}
use native.Mathlib.Omega.{arith}
use mathlib.Core.Path.{◌≡◌, refl, sym, ap, ◌∙◌, subst}
use mathlib.Core.List.{List, [], ◌∷◌, ◌++◌}
use lib.ListN.{length, get_or, length-append}
use Rattle.eb3.specs.Expressions.{Cond}
use Rattle.eb3.specs.Spelling.{cond_words}
use Rattle.eb3.specs.Scopes.{Scope, guard_scope, CondInScope}
use Rattle.eb3.specs.RuleSets.{RuleTerm, rule_guard, choice_over, parallel_over, domain_size, attributes}
use Rattle.eb3.specs.Sizes.{cond_size}
use Rattle.eb3.specs.Measures.{sat, guard_of, guard_size, measure_term}
use Rattle.eb3.specs.Reading.{Read, refused, taken, Reader, giving, then, both, number_of}
use Rattle.eb3.specs.ExpressionReading.{read_cond}
use Rattle.eb3.specs.RuleReading.{rule_mask_of, choice_over_of, parallel_over_of, rule_by, read_rule_term}
use Rattle.eb3.proofs.Laws.Reading.{Sound}
use Rattle.eb3.proofs.Laws.ExpressionReading.{cond_sound}
use Rattle.eb3.proofs.Laws.Spelling.{cond_length}
use Rattle.eb3.proofs.Laws.Measures.{guard_size_one}
use Rattle.words.specs.Checking.{checked, last_of, Checked}
use Rattle.words.specs.Readings.{Taken}
use Rattle.words.specs.Laws.Reading.{checked_refused, checked_taken, giving_refused_as, giving_taken, both_first_as, both_second_as, both_taken, by_number_refused, by_number_taken}
use Rattle.expression_check.specs.Laws.Reading.{cond_ends}
use Rattle.measures.specs.declared.Weight.{Weight}
use Rattle.measures.specs.Weighing.{cap, measure}
use Rattle.tables.specs.Layout.{domain_count, function_count}
use Rattle.tables.specs.Tables.{edition_in, declared, callee}
use Rattle.tables.specs.Laws.Tables.{domains_length, guard_declared}
use Rattle.rule_terms.specs.Weighed.{weighed, terms, answer, mask_if, copies_of, quantifier, weighed_copies, Answer, found}
use Rattle.rule_terms.specs.Laws.Weighed.{weighed_in, refused_in}
use Rattle.rule_terms.proofs.Parts.{got_term, no_term, behind_got, refused_behind}
use Rattle.std.specs.Prelude.{Ok, Err}
use Rattle.refusals.specs.declared.Refusal.{Refusal}
use Rattle.rule_terms.specs.declared.Quantifier.{Quantifier}
use Rattle.rule_terms.specs.declared.Quantifier.TheVariants.{Choice, Parallel}

-- ── a condition, then a term ──

-- A condition's size is the words that it took.
words_taken : (P : Scope) → P.edition.width ≡ 1 → (t : List ℕ) (C : Cond) (u : List ℕ) → read_cond P t ≡ taken C u → length t - length u ≡ guard_size 1 C
words_taken P one t C u e =
    let w : ℕ = P.edition.width in
    let h : (t ≡ cond_words w C ++ u) × CondInScope C P = subst (λ r. Sound (cond_words w) (λ D. CondInScope D P) t r) e (cond_sound P t) in
    omega (arith, ap length h.0, length-append (cond_words w C) u, cond_length w C, ap (λ v. cond_size v C) one, guard_size_one C)

-- b is the number of functions, as the code has it
pub condition_in : (T Γ t : List ℕ) (b : ℕ) (p : Checked) → b ≡ function_count T → p ≡ checked (read_cond (record { edition = edition_in T; arity = λ f. 1; now = b; before = 0; variables = length Γ }) t)
    → p ≡ checked (read_cond (guard_scope (attributes (declared T)) (length Γ)) t)
condition_in T Γ t b p i e = e ∙ (λ j. checked (read_cond (record { edition = edition_in T; arity = λ f. 1; now = i j; before = 0; variables = length Γ }) t))
    ∙ ap (λ P. checked (read_cond P t)) (sym (guard_declared T (length Γ)))

module _ (T Γ : List ℕ) where
  abbrev conditions : Reader Cond
  conditions = read_cond (guard_scope (attributes (declared T)) (length Γ))

  module _ (t : List ℕ) (p : Checked) (e : p ≡ checked (read_cond (guard_scope (attributes (declared T)) (length Γ)) t)) where
    abbrev guards : Read RuleTerm
    guards = giving (λ s. rule_guard s.0 s.1) (both conditions (terms T Γ) t)

    pub guard_none : (k : Refusal) → p ≡ Err k → Err k ≡ answer T guards
    guard_none k h = refused_in (declared T) (callee T) _ k (giving_refused_as _ _ k (both_first_as conditions (terms T Γ) t k (checked_refused (conditions t) k (sym h ∙ e))))

    module _ (n : ℕ) (r : List ℕ) (q : Answer) (h : p ≡ Ok n) (l : r ≡ last_of n t) (f : q ≡ answer T (terms T Γ r)) where
      got_condition : Taken t n (conditions t)
      got_condition = checked_taken t n (conditions t) (cond_ends (guard_scope (attributes (declared T)) (length Γ)) t) (sym h ∙ e)

      pub guard_out : (k : Refusal) → q ≡ Err k → Err k ≡ answer T guards
      guard_out k o =
          let g = got_condition in
          refused_in (declared T) (callee T) _ k (giving_refused_as _ _ k (both_second_as conditions (terms T Γ) t g.value g.rest k g.read (refused_behind (terms T Γ) t r n _ k g l (no_term T Γ r k q f o))))

      size_taken : (c : ℕ) → c ≡ length t - n → c ≡ guard_size (declared T).edition.width got_condition.value
      unfolding declared
      size_taken c d = d ∙ ap (λ m. length t - m) got_condition.left ∙ words_taken (guard_scope (attributes (declared T)) (length Γ)) refl t got_condition.value got_condition.rest got_condition.read

      -- c is the condition's size
      pub guard_in : (m c d : ℕ) (v x : Weight) → q ≡ found m v → c ≡ d → d ≡ length t - n → measure x ≡ guard_of (sat cap) c (measure v) → found m x ≡ answer T guards
      unfolding measure_term
      guard_in m c d v x o y z w =
          let g = got_condition in
          let s = got_term T Γ r m v q f o in
          weighed_in (declared T) (callee T) m x _ (rule_guard g.value s.0.value) s.0.rest
          (giving_taken _ _ (g.value, s.0.value) s.0.rest
          (both_taken conditions (terms T Γ) t g.value g.rest s.0.value s.0.rest g.read (behind_got (terms T Γ) t r n _ g l ∙ s.0.read)))
          s.0.left
          (w ∙ (λ j. guard_of (sat cap) (size_taken c (y ∙ z) j) (s.1 j)))

-- ── a domain, then copies of a term with one variable more ──

all_parallel : (T : List ℕ) (c d : ℕ) (s : Read (List ℕ × RuleTerm)) → c ≡ domain_size (declared T) d → weighed_copies (declared T) (callee T) Parallel c s ≡ answer T (giving (λ x. parallel_over d x.0 x.1) s)
unfolding weighed weighed_copies copies_of giving measure_term
all_parallel T c d (refused k) e = refl
all_parallel T c d (taken x u) e = rw e

all_choice : (T : List ℕ) (c d : ℕ) (s : Read RuleTerm) → c ≡ domain_size (declared T) d → weighed_copies (declared T) (callee T) Choice c (giving (λ E. ([], E)) s) ≡ answer T (giving (choice_over d) s)
unfolding weighed weighed_copies copies_of giving measure_term
all_choice T c d (refused k) e = refl
all_choice T c d (taken x u) e = rw e

-- b is the number of domains, as the code has it
module _ (T Γ t : List ℕ) (b : ℕ) (p : Checked) (i : b ≡ domain_count T) (e : p ≡ checked (number_of 5 b t)) where
  as_domains : p ≡ checked (number_of 5 (length (declared T).domains) t)
  as_domains = e ∙ ap (λ n. checked (number_of 5 n t)) (i ∙ sym (domains_length T))

  pub quantified_none : (w : Quantifier) (k : Refusal) → p ≡ Err k → Err k ≡ answer T (rule_by (declared T) (read_rule_term (declared T)) Γ (quantifier w) t)
  unfolding choice_over_of parallel_over_of
  quantified_none Parallel k h = refused_in (declared T) (callee T) _ k (by_number_refused 5 (length (declared T).domains) _ t k (sym h ∙ as_domains))
  quantified_none Choice k h = refused_in (declared T) (callee T) _ k (by_number_refused 5 (length (declared T).domains) _ t k (sym h ∙ as_domains))

  -- Δ are the variables of the term, d the domain's number, c its size
  module _ (n : ℕ) (r Δ : List ℕ) (q : Answer) (h : p ≡ Ok n) (l : r ≡ last_of n t) (g : Δ ≡ Γ ++ (get_or t 0 0 ∷ [])) where
    choice_there : choice_over_of (declared T) (read_rule_term (declared T)) Γ t ≡ giving (choice_over (get_or t 0 0)) (terms T Δ r)
    unfolding choice_over_of
    choice_there = by_number_taken 5 (length (declared T).domains) _ t n (sym h ∙ as_domains) ∙ (λ j. giving (choice_over (get_or t 0 0)) (terms T (sym g j) (sym l j)))

    parallel_there : parallel_over_of (declared T) (read_rule_term (declared T)) Γ t ≡ giving (λ s. parallel_over (get_or t 0 0) s.0 s.1) (both (rule_mask_of (declared T)) (terms T Δ) r)
    unfolding parallel_over_of
    parallel_there = by_number_taken 5 (length (declared T).domains) _ t n (sym h ∙ as_domains) ∙ (λ j. giving (λ s. parallel_over (get_or t 0 0) s.0 s.1) (both (rule_mask_of (declared T)) (terms T (sym g j)) (sym l j)))

    pub quantified_in : (w : Quantifier) (d c : ℕ) → d ≡ get_or t 0 0 → c ≡ domain_size (declared T) d → q ≡ weighed_copies (declared T) (callee T) w c (both (mask_if w (declared T)) (terms T Δ) r)
        → q ≡ answer T (rule_by (declared T) (read_rule_term (declared T)) Γ (quantifier w) t)
    unfolding mask_if both then
    quantified_in Parallel d c u v f = f ∙ all_parallel T c (get_or t 0 0) _ (v ∙ ap (domain_size (declared T)) u) ∙ ap (answer T) (sym parallel_there)
    quantified_in Choice d c u v f = f ∙ all_choice T c (get_or t 0 0) (terms T Δ r) (v ∙ ap (domain_size (declared T)) u) ∙ ap (answer T) (sym choice_there)
