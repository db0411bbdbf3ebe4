-- What a weighed answer says of the reading: `..-out`, that it was refused, and `..-refused`, by which number; `..-got`, what was read, the words after it
-- and its measures.
-- Document 01, "Blocks and the rule stream", item 5; "Unfolding, size and breadth".
use Rattle.std.specs.Prelude.{ℕ, refl, List, Err}
use Rattle.std.proofs.Common.{arith, ◌∙◌}
use Rattle.std.proofs.Math.Path.{◌≡◌, ap}
use Rattle.std.proofs.Math.ListN.{length}
use Rattle.eb3.specs.RuleSets.{RuleTerm, RuleSet}
use Rattle.eb3.specs.Measures.{sat, Measure, measure_term}
use Rattle.eb3.specs.Reading.{Read, refused, taken}
use Rattle.words.specs.Checking.{last_of}
use Rattle.words.specs.Ends.{Fine}
use Rattle.words.specs.Laws.Checking.{tail_at, tail_short}
use Rattle.words.specs.Readings.{Taken, RefusedAs}
use Rattle.words.specs.Laws.Refusing.{refused_number}
use Rattle.eb3.specs.RuleReading.{read_rule_term}
use Rattle.eb3.proofs.Laws.Refusals.{Refuses, rule_term_refuses}
use Rattle.measures.specs.declared.Weight.{Weight}
use Rattle.measures.specs.Weighing.{cap, measure, weight}
use Rattle.rule_terms.specs.declared.Weighed.{Weighed}
use Rattle.rule_terms.specs.Weighed.{weighed, found}
use Rattle.refusals.specs.declared.Refusal.{Refusal}
use Rattle.refusals.specs.Numbers.{number}

module _ (R : RuleSet) (M : ℕ → Measure) where
  pub weighed_out : (r : Read RuleTerm) (k : Refusal) → Err k ≡ weighed R M r → RefusedAs k r
  unfolding weighed
  weighed_out (refused j) k e = record { code = j; read = refl; named = cc }
  weighed_out (taken a u) k e = absurd (let z : ◌≡◌ {A = ℕ} 0 1 = cc in omega arith)

  -- A reader of rule terms is refused by the very number of the refusal.
  pub weighed_refused : (r : Read RuleTerm) (k : Refusal) → Refuses r → Err k ≡ weighed R M r → r ≡ refused (number k)
  weighed_refused r k within e = refused_number r k within (weighed_out r k e)

  pub term_refused : (Q : RuleSet) (Γ t : List ℕ) (k : Refusal) → Err k ≡ weighed R M (read_rule_term Q Γ t) → read_rule_term Q Γ t ≡ refused (number k)
  term_refused Q Γ t k e = weighed_refused (read_rule_term Q Γ t) k (rule_term_refuses Q Γ t) e

  abbrev pub Measured : Weight → RuleTerm → Type 0
  Measured w E = measure w ≡ measure_term (sat cap) R M E

  pub weighed_got : (t : List ℕ) (n : ℕ) (w : Weight) (r : Read RuleTerm) → Fine t r → found n w ≡ weighed R M r → (g : Taken t n r) × Measured w g.value
  unfolding weighed
  weighed_got t n w (refused j) f e = absurd (let z : ◌≡◌ {A = ℕ} 0 1 = cc in omega arith)
  weighed_got t n w (taken a u) f e =
      let q : ◌≡◌ {A = Weighed} (record { left = n; weight = w }) (record { left = length u; weight = weight (measure_term (sat cap) R M a) }) = cc in
      let k : n ≡ length u = ap (λ x. x.left) q in
      let m : w ≡ weight (measure_term (sat cap) R M a) = ap (λ x. x.weight) q in
      (record { value = a; rest = u; read = refl; left = k; words = ap (λ j. last_of j t) k ∙ tail_at u t f; short = omega (arith, tail_short u t f) }, ap measure m)

  -- and back: the answer of what was read, and of what was refused
  pub weighed_in : (n : ℕ) (w : Weight) (r : Read RuleTerm) (E : RuleTerm) (u : List ℕ) → r ≡ taken E u → n ≡ length u → Measured w E → found n w ≡ weighed R M r
  unfolding weighed
  weighed_in n w r E u e k m = rw (e, k) (ap (λ x. found (length u) (weight x)) m)

  pub refused_in : (r : Read RuleTerm) (k : Refusal) → RefusedAs k r → Err k ≡ weighed R M r
  unfolding weighed
  refused_in r k h = rw h.read (ap Err h.named)
