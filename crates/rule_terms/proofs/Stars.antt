-- Stars at the front: what is read of the whole, and what the answer of the term after them says of it.
-- Document 01, "Blocks and the rule stream", item 5; "Unfolding, size and breadth".
use Rattle.std.specs.Prelude.{◌≡◌, refl, ◌≤◌, Bool, true, false, Err, List, [], ◌∷◌, ℕ, zero, suc, eqb, length, drop, get_or}
use Rattle.std.proofs.Common.{arith, sym, ap, ◌∙◌}
use Rattle.std.proofs.lemmas.Bool.{eqb-true}
use Rattle.eb3.specs.RuleSets.{RuleTerm, rule_star, RuleSet}
use Rattle.eb3.specs.Measures.{sat, Measure, star_of, measure_term}
use Rattle.eb3.specs.Reading.{Read, taken, pick, giving}
use Rattle.eb3.specs.RuleReading.{RuleKind, rule_kind, read_rule_term}
use Rattle.measures.specs.declared.Weight.{Weight}
use Rattle.measures.specs.Weighing.{cap, measure, stars_of}
use Rattle.tables.specs.Tables.{declared, callee}
use Rattle.words.specs.Repeats.{leading}
use Rattle.words.specs.Laws.Repeats.{leading_short, leading_stops}
use Rattle.words.specs.Readings.{RefusedAs}
use Rattle.words.specs.Laws.Reading.{giving_refused_as, same_refused}
use Rattle.refusals.specs.declared.Refusal.{Refusal}
use Rattle.rule_terms.specs.Starred.{starred, Stars}
use Rattle.rule_terms.specs.Laws.Reading.{term_case}
use Rattle.rule_terms.specs.Weighed.{terms, answer, Answer, found}
use Rattle.rule_terms.specs.Laws.Weighed.{weighed_in, refused_in}
use Rattle.rule_terms.proofs.Parts.{got_term, no_term}

-- ── the count ──

read_by : (R : RuleSet) (Γ t : List ℕ) (w : ℕ) (b : Bool) → eqb w 24 ≡ b → read_rule_term R Γ t ≡ starred (leading 24 t) (read_rule_term R Γ (drop (leading 24 t) t))
    → read_rule_term R Γ (w ∷ t) ≡ starred (pick b (suc (leading 24 t)) 0) (read_rule_term R Γ (drop (pick b (suc (leading 24 t)) 0) (w ∷ t)))
unfolding starred
read_by R Γ t w true e h = term_case R Γ (w ∷ t) RuleKind.star (λ z. omega arith) (ap (rule_kind Γ) (eqb-true w 24 e)) ∙ ap (giving rule_star) h
read_by R Γ t w false e h = refl

stars_read : (R : RuleSet) (Γ s : List ℕ) → read_rule_term R Γ s ≡ starred (leading 24 s) (read_rule_term R Γ (drop (leading 24 s) s))
unfolding leading starred
stars_read R Γ [] = refl
stars_read R Γ (w ∷ t) = read_by R Γ t w (eqb w 24) refl (stars_read R Γ t)

pub stars_counted : (s : List ℕ) (k : ℕ) → k ≡ leading 24 s → Stars s k
stars_counted s k e = rw e (record { within = leading_short 24 s; reads = λ R Γ. stars_read R Γ s })

pub beyond_short : (s : List ℕ) (k : ℕ) → k ≡ leading 24 s → k ≤ length s
beyond_short s k e = rw e (leading_short 24 s)

pub beyond_front : (s t : List ℕ) (k : ℕ) → k ≡ leading 24 s → t ≡ drop k s → get_or t 0 0 ≡ 24 → ⊥
beyond_front s t k e q f = leading_stops 24 s (λ z. omega arith) ((λ i. get_or (drop (sym e i) s) 0 0) ∙ ap (λ u. get_or u 0 0) (sym q) ∙ f)

-- ── the whole, by what is after them ──

starred_refused : (k : ℕ) (j : Refusal) (r : Read RuleTerm) → RefusedAs j r → RefusedAs j (starred k r)
unfolding starred
starred_refused zero j r e = e
starred_refused (suc k) j r e = giving_refused_as rule_star (starred k r) j (starred_refused k j r e)

abbrev nest : ℕ → RuleTerm → RuleTerm
nest zero E = E
nest (suc k) E = rule_star (nest k E)

starred_taken : (k : ℕ) (r : Read RuleTerm) (E : RuleTerm) (u : List ℕ) → r ≡ taken E u → starred k r ≡ taken (nest k E) u
unfolding starred giving
starred_taken zero r E u e = e
starred_taken (suc k) r E u e = ap (giving rule_star) (starred_taken k r E u e)

nest_measure : (R : RuleSet) (M : ℕ → Measure) (k : ℕ) (E : RuleTerm) → stars_of k (measure_term (sat cap) R M E) ≡ measure_term (sat cap) R M (nest k E)
unfolding stars_of measure_term
nest_measure R M zero E = refl
nest_measure R M (suc k) E = ap (star_of (sat cap)) (nest_measure R M k E)

-- t is the words after k stars
module _ (T Γ s t : List ℕ) (k : ℕ) (p : Answer) (c : k ≡ leading 24 s) (q : t ≡ drop k s) (e : p ≡ answer T (terms T Γ t)) where
  whole : terms T Γ s ≡ starred k (terms T Γ t)
  whole = (stars_counted s k c).reads (declared T) Γ ∙ ap (λ u. starred k (terms T Γ u)) (sym q)

  pub stars_out : (j : Refusal) → p ≡ Err j → Err j ≡ answer T (terms T Γ s)
  stars_out j h = refused_in (declared T) (callee T) _ j (same_refused _ _ j whole (starred_refused k j _ (no_term T Γ t j p e h)))

  pub stars_in : (n : ℕ) (v x : Weight) → p ≡ found n v → measure x ≡ stars_of k (measure v) → found n x ≡ answer T (terms T Γ s)
  stars_in n v x h i =
      let a = got_term T Γ t n v p e h in
      weighed_in (declared T) (callee T) n x _ (nest k a.0.value) a.0.rest (whole ∙ starred_taken k _ a.0.value a.0.rest a.0.read) a.0.left
      (i ∙ ap (stars_of k) a.1 ∙ nest_measure (declared T) (callee T) k a.0.value)

pub ruleset around = (beyond_short, beyond_front, stars_out, stars_in)
