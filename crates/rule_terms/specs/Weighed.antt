-- What a check of process terms answers of a reading: how many words are left, and the measures of what was read.
-- Document 01, "Blocks and the rule stream", item 5; "Unfolding, size and breadth".
use Rattle.std.specs.Prelude.{Bool, List, [], ℕ, length, Result, Ok, Err}
use Rattle.eb3.specs.RuleSets.{RuleTerm, RuleSet}
use Rattle.eb3.specs.Sizes.{zero_mask}
use Rattle.eb3.specs.Measures.{sat, Measure, nothing, choice_of, measure_term}
use Rattle.eb3.specs.Unfolding.{right_nest}
use Rattle.eb3.specs.Reading.{Read, refused, taken, Reader}
use Rattle.eb3.specs.RuleReading.{rule_mask_of, RuleKind, read_rule_term}
use Rattle.measures.specs.declared.Weight.{Weight}
use Rattle.measures.specs.Weighing.{cap, weight, parallel_by, joint_of}
use Rattle.measures.specs.declared.Joint.{Joint}
use Rattle.tables.specs.Tables.{declared, callee}
use Rattle.refusals.specs.declared.Refusal.{Refusal}
use Rattle.refusals.specs.Numbers.{refusal}
use Rattle.rule_terms.specs.declared.Weighed.{Weighed}
use Rattle.rule_terms.specs.declared.Quantifier.{Quantifier}
use Rattle.rule_terms.specs.declared.Quantifier.TheVariants.{Choice, Parallel}

abbrev pub Answer : Type 0
Answer = Result Weighed Refusal

abbrev pub found : ℕ → Weight → Answer
found n w = Ok (record { left = n; weight = w })

-- Over the rule set R declared before the term, and its processes' measures M.
unfoldable pub weighed : RuleSet → (ℕ → Measure) → Read RuleTerm → Answer
weighed R M (refused k) = Err (refusal k)
weighed R M (taken E t) = found (length t) (weight (measure_term (sat cap) R M E))

-- The terms read over the rule set that the tables declare, and the answer of a check of them.
abbrev pub terms : List ℕ → List ℕ → Reader RuleTerm
terms T Γ = read_rule_term (declared T) Γ

abbrev pub answer : List ℕ → Read RuleTerm → Answer
answer T r = weighed (declared T) (callee T) r

-- The answer of two terms in a row.
unfoldable pub weighed_two : RuleSet → (ℕ → Measure) → Joint → Read (RuleTerm × RuleTerm) → Answer
weighed_two R M j (refused k) = Err (refusal k)
weighed_two R M j (taken p t) = found (length t) (weight (joint_of j (measure_term (sat cap) R M p.0) (measure_term (sat cap) R M p.1)))

-- ── quantifiers: a choice, or a parallel, which has a mask ──

abbrev pub quantifier : Quantifier → RuleKind
quantifier Parallel = RuleKind.parallel_quantifier
quantifier Choice = RuleKind.choice_quantifier

unfoldable pub mask_if : Quantifier → RuleSet → Reader (List ℕ)
mask_if Parallel R t = rule_mask_of R t
mask_if Choice R t = taken [] t

-- n copies of a term of that measure.
unfoldable pub copies_of : Quantifier → Bool → ℕ → Measure → Measure
copies_of Parallel z n m = right_nest (nothing (sat cap)) (parallel_by z) n (λ x. m)
copies_of Choice z n m = right_nest (nothing (sat cap)) (choice_of (sat cap)) n (λ x. m)

-- The answer of a mask where there is one, and a term, of which there are n copies.
unfoldable pub weighed_copies : RuleSet → (ℕ → Measure) → Quantifier → ℕ → Read (List ℕ × RuleTerm) → Answer
weighed_copies R M b n (refused k) = Err (refusal k)
weighed_copies R M b n (taken p t) = found (length t) (weight (copies_of b (zero_mask p.0) n (measure_term (sat cap) R M p.1)))
