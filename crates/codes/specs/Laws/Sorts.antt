-- Laws of which codes may be where (`may_be`): it is so if and only if the code is in a range (`InRange`), and every other code is refused as form
-- (document 01, "Values and conditions", "Blocks and the rule stream").
use Rattle.std.specs.Prelude.{◌≡◌, Bool, ◌||◌, ◌⊎◌, ℕ, ◌≤◌, eqb, leb, List}
use Rattle.std.proofs.Math.Path.{refl, sym, ap}
use Rattle.std.proofs.Common.{◌∙◌, subst, inl, inr, arith, le→leb, leb→le, eqb→eq, ne_eqb}
use Rattle.std.proofs.Math.Bool.{true, false}
use Rattle.std.proofs.Math.Dec.{T}
use Rattle.eb3.specs.Generic.Booleans.{T_and, T_fst, T_snd, T_or}
use Rattle.eb3.specs.Refusal
use Rattle.eb3.specs.Scopes.{Scope}
use Rattle.eb3.specs.Reading.{pick}
use Rattle.eb3.specs.ExpressionReading.{DataKind, CondKind, data_kind, cond_kind}
use Rattle.eb3.specs.TermReading.{TermKind, term_kind}
use Rattle.eb3.specs.RuleReading.{RuleKind, rule_kind}
use Rattle.eb3.proofs.Laws.Reading.{pick_true, pick_false}
use Rattle.codes.specs.declared.Due.{Due}
use Rattle.codes.specs.declared.Due.TheVariants.{Data, Condition, RuleTerm, RunningTerm}
use Rattle.codes.specs.Sorts.{between, may_be, refusal_of}

abbrev pub InRange : Due → ℕ → Type 0
InRange Data c = c ≤ 7
InRange Condition c = (8 ≤ c) × (c ≤ 13)
InRange RuleTerm c = (20 ≤ c) × (c ≤ 29)
InRange RunningTerm c = ((20 ≤ c) × (c ≤ 26)) ⊎ (c ≡ 30)

within : (a b c : ℕ) → (a ≤ c) × (c ≤ b) → T (between a b c)
within a b c h = T_and (leb a c) (leb c b) (le→leb a c h.0) (le→leb c b h.1)

bounds : (a b c : ℕ) → T (between a b c) → (a ≤ c) × (c ≤ b)
bounds a b c t = (leb→le a c (T_fst (leb a c) (leb c b) t), leb→le c b (T_snd (leb a c) (leb c b) t))

either : (a b : Bool) → T a ⊎ T b → T (a || b)
either true b h = tt
either false b (inl t) = absurd t
either false b (inr t) = t

pub may_be_in : (d : Due) (c : ℕ) → InRange d c → T (may_be d c)
unfolding may_be
may_be_in Data c h = within 0 7 c (omega arith, h)
may_be_in Condition c h = within 8 13 c h
may_be_in RuleTerm c h = within 20 29 c h
may_be_in RunningTerm c (inl h) = either (between 20 26 c) (eqb c 30) (inl (within 20 26 c h))
may_be_in RunningTerm c (inr e) = either (between 20 26 c) (eqb c 30) (inr (subst (λ n. T (eqb n 30)) (sym e) tt))

pub may_be_range : (d : Due) (c : ℕ) → T (may_be d c) → InRange d c
unfolding may_be
may_be_range Data c t = (bounds 0 7 c t).1
may_be_range Condition c t = bounds 8 13 c t
may_be_range RuleTerm c t = bounds 20 29 c t
may_be_range RunningTerm c t = T_or (between 20 26 c) (eqb c 30) t (λ u. inl (bounds 20 26 c u)) (λ u. inr (eqb→eq c 30 u))

-- ── the refusal ──

module _ (d due : Due) (c : ℕ) (e : due ≡ d) where
  pub Allowed : InRange d c → 0 ≡ refusal_of due c
  unfolding refusal_of
  Allowed h = sym (pick_true 0 Refusal.form (may_be due c) (subst (λ x. T (may_be x c)) (sym e) (may_be_in d c h)))

  pub not_allowed : (InRange d c → ⊥) → 4 ≡ refusal_of due c
  unfolding refusal_of
  not_allowed n = sym (pick_false 0 Refusal.form (may_be due c) (λ t. n (may_be_range d c (subst (λ x. T (may_be x c)) e t))))

pub outside : (c : ℕ) → (20 ≤ c → c ≤ 26 → ⊥) → (c ≡ 30 → ⊥) → InRange RunningTerm c → ⊥
outside c m n (inl h) = m h.0 h.1
outside c m n (inr e) = n e

-- No code from 14 to 19 and none above 30 may be anywhere.
pub never_allowed : (due : Due) (c : ℕ) → ((d : Due) → InRange d c → ⊥) → 4 ≡ refusal_of due c
never_allowed due c n = not_allowed due due c refl (n due)

pub between_sorts : (c : ℕ) → 14 ≤ c → c ≤ 19 → (d : Due) → InRange d c → ⊥
between_sorts c l u Data h = let z : ⊥ = omega arith in z
between_sorts c l u Condition h = let z : ⊥ = omega (arith, h.1) in z
between_sorts c l u RuleTerm h = let z : ⊥ = omega (arith, h.0) in z
between_sorts c l u RunningTerm h = outside c (λ a b. let z : ⊥ = omega arith in z) (λ e. let z : ⊥ = omega arith in z) h

pub after_sorts : (c : ℕ) → 30 ≤ c → (c ≡ 30 → ⊥) → (d : Due) → InRange d c → ⊥
after_sorts c l n Data h = let z : ⊥ = omega arith in z
after_sorts c l n Condition h = let z : ⊥ = omega (arith, h.1) in z
after_sorts c l n RuleTerm h = let z : ⊥ = omega (arith, h.1) in z
after_sorts c l n RunningTerm h = outside c (λ a b. let z : ⊥ = omega arith in z) n h

-- ── what a refusal says ──

-- A code with a refusal is refused as form and outside of the range; one without is in it.
module _ (d : Due) (c k : ℕ) (e : k ≡ refusal_of d c) where
  pub refused_outside : (k ≡ 0 → ⊥) → (k ≡ 4) × (InRange d c → ⊥)
  unfolding refusal_of
  refused_outside n = (go (may_be d c) refl, λ h. n (e ∙ sym (Allowed d d c refl h)))
    where
      go : (b : Bool) → may_be d c ≡ b → k ≡ 4
      go true q = absurd (n (e ∙ ap (λ b. pick b 0 Refusal.form) q))
      go false q = e ∙ ap (λ b. pick b 0 Refusal.form) q

  pub taken_inside : k ≡ 0 → InRange d c
  unfolding refusal_of
  taken_inside z = go (may_be d c) refl
    where
      go : (b : Bool) → may_be d c ≡ b → InRange d c
      go true q = may_be_range d c (subst T (sym q) tt)
      go false q = absurd (let y : ⊥ = omega (arith, z, e, ap (λ b. pick b 0 Refusal.form) q) in y)

-- Outside of its range a code begins nothing.
pub no_data : (P : Scope) (c : ℕ) → (c ≤ 7 → ⊥) → data_kind P c ≡ DataKind.wrong
no_data P c n = simp (ne_eqb c 0 (λ e. n (omega arith)), ne_eqb c 1 (λ e. n (omega arith)), ne_eqb c 2 (λ e. n (omega arith)), ne_eqb c 3 (λ e. n (omega arith)), ne_eqb c 4 (λ e. n (omega arith)), ne_eqb c 5 (λ e. n (omega arith)), ne_eqb c 6 (λ e. n (omega arith)), ne_eqb c 7 (λ e. n (omega arith)))

pub no_condition : (c : ℕ) → ((8 ≤ c) × (c ≤ 13) → ⊥) → cond_kind c ≡ CondKind.wrong
no_condition c n = simp (ne_eqb c 8 (λ e. n (omega arith, omega arith)), ne_eqb c 9 (λ e. n (omega arith, omega arith)), ne_eqb c 10 (λ e. n (omega arith, omega arith)), ne_eqb c 11 (λ e. n (omega arith, omega arith)), ne_eqb c 12 (λ e. n (omega arith, omega arith)), ne_eqb c 13 (λ e. n (omega arith, omega arith)))

pub no_rule_term : (Γ : List ℕ) (c : ℕ) → ((20 ≤ c) × (c ≤ 29) → ⊥) → rule_kind Γ c ≡ RuleKind.wrong
no_rule_term Γ c n = simp (ne_eqb c 20 (λ e. n (omega arith, omega arith)), ne_eqb c 21 (λ e. n (omega arith, omega arith)), ne_eqb c 22 (λ e. n (omega arith, omega arith)), ne_eqb c 23 (λ e. n (omega arith, omega arith)), ne_eqb c 24 (λ e. n (omega arith, omega arith)), ne_eqb c 25 (λ e. n (omega arith, omega arith)), ne_eqb c 26 (λ e. n (omega arith, omega arith)), ne_eqb c 27 (λ e. n (omega arith, omega arith)), ne_eqb c 28 (λ e. n (omega arith, omega arith)), ne_eqb c 29 (λ e. n (omega arith, omega arith)))

pub no_running_term : (c : ℕ) → (InRange RunningTerm c → ⊥) → term_kind c ≡ TermKind.wrong
no_running_term c n = simp (ne_eqb c 20 (λ e. n (inl (omega arith, omega arith))), ne_eqb c 21 (λ e. n (inl (omega arith, omega arith))), ne_eqb c 22 (λ e. n (inl (omega arith, omega arith))), ne_eqb c 23 (λ e. n (inl (omega arith, omega arith))), ne_eqb c 24 (λ e. n (inl (omega arith, omega arith))), ne_eqb c 25 (λ e. n (inl (omega arith, omega arith))), ne_eqb c 26 (λ e. n (inl (omega arith, omega arith))), ne_eqb c 30 (λ e. n (inr e)))
