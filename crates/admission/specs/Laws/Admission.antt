-- What the engine's answer to Admit says of the admission itself: the refusal, or the rule set, its sizes and how its stream was read.
-- Document 01, "Operations".
use Rattle.std.specs.Prelude.{◌≡◌, refl, List, ℕ, T, leb, drop, Ok, Err}
use Rattle.std.proofs.Math.Path.{ap}
use Rattle.std.proofs.Common.{sym, ◌∙◌, arith}
use Rattle.eb3.specs.Refusal
use Rattle.eb3.specs.Generic.Lists.{one_of, all_of, one_of_more}
use Rattle.eb3.specs.Editions.{edition_1}
use Rattle.eb3.specs.RuleSets.{RuleSet}
use Rattle.eb3.specs.Reading.{Read, taken}
use Rattle.eb3.specs.RuleReading.{read_rules}
use Rattle.eb3.specs.Blocks.{stream, Opened, open_blocks}
use Rattle.eb3.proofs.Laws.Admission.{opened_is_1}
use Rattle.eb3.proofs.Laws.Refusals.{admission_within, refused_within}
use Rattle.eb3.specs.Admission.{ends_right, ended, within_limits, admission}
use Rattle.eb3.specs.Sizes.{reach, breadth}
use Rattle.eb3.specs.Unfolding.{unfold_main}
use Rattle.eb3.specs.Answers.{Answer, refused, answered, and_then}
use Rattle.eb3.specs.Operations.{admit, sizes_needed}
use Rattle.eb3.proofs.Laws.Answers.{and_then_answered, answered_injective, pick_answered, not_both}
use Rattle.measures.specs.declared.Limits.{Limits}
use Rattle.admission.specs.Answering.{limits, admitted}
use Rattle.refusals.specs.declared.Refusal.{Refusal}
use Rattle.refusals.specs.Numbers.{number, RefusedBy}
use Rattle.refusals.specs.Laws.Numbers.{refused_by}

refused_from : (a : Answer RuleSet) (k : Refusal) → Err k ≡ admitted (and_then a λ R. answered (sizes_needed R)) → RefusedBy k a
unfolding admitted and_then
refused_from (refused j) k e = record { code = j; is = refl; named = cc }
refused_from (answered R) k e = absurd (let z : ◌≡◌ {A = ℕ} 0 1 = cc in omega arith)

answered_from : (a : Answer RuleSet) (l : Limits) → Ok l ≡ admitted (and_then a λ R. answered (sizes_needed R)) → (R : RuleSet) × (a ≡ answered R) × (l ≡ limits (sizes_needed R))
unfolding admitted and_then
answered_from (refused j) l e = absurd (let z : ◌≡◌ {A = ℕ} 0 1 = cc in omega arith)
answered_from (answered R) l e = (R, refl, cc)

module _ (rules : List ℕ) where
  -- An admission refuses by a number from 1 to 8.
  within : (j : ℕ) → admission rules ≡ refused j → T (one_of Refusal.of_any j)
  unfolding one_of all_of
  within j e = one_of_more Refusal.of_any Refusal.of_admission tt j (refused_within Refusal.of_admission (admission rules) (admission_within rules) j e)

  pub admission_refused : (k : Refusal) → Err k ≡ admitted (admit rules) → admission rules ≡ refused (number k)
  unfolding admit
  admission_refused k e = refused_by k (admission rules) within (refused_from (admission rules) k e)

  pub admission_answered : (l : Limits) → Ok l ≡ admitted (admit rules) → (R : RuleSet) × (admission rules ≡ answered R) × (l ≡ limits (sizes_needed R))
  unfolding admit
  admission_answered l e = answered_from (admission rules) l e

  -- what the stream was read as
  ended_taken : (r : Read RuleSet) (R : RuleSet) → ended r ≡ answered R → (u : List ℕ) × (r ≡ taken R u)
  unfolding ended
  ended_taken (Read.refused k) R e = absurd (not_both k R e)
  ended_taken (Read.taken Q rest) R e = (rest, ap (λ P. taken P rest) (answered_injective Q R (pick_answered (ends_right rest) (answered Q) Refusal.form R e).1))

  same_limited : (Q R : RuleSet) → within_limits Q ≡ answered R → Q ≡ R
  unfolding within_limits
  same_limited Q R e =
      let p = pick_answered (leb (reach Q.edition.width (unfold_main Q)) 8192) _ Refusal.size R e in
      answered_injective Q R (pick_answered (leb (breadth (unfold_main Q)) 65535) (answered Q) Refusal.breadth R p.1).1

  pub admission_taken : (R : RuleSet) → admission rules ≡ answered R → (u : List ℕ) × (read_rules edition_1 (drop 2 (stream rules)) ≡ taken R u)
  unfolding admission
  admission_taken R e =
      let p = and_then_answered (and_then (open_blocks rules) λ o. ended (read_rules o.edition o.words)) within_limits R e in
      let q = and_then_answered (open_blocks rules) (λ o. ended (read_rules o.edition o.words)) p.0 p.1 in
      let t = ended_taken (read_rules q.0.edition q.0.words) p.0 q.2 in
      (t.0, ap (λ (o : Opened). read_rules o.edition o.words) (sym (opened_is_1 rules q.0 q.1)) ∙ t.1 ∙ ap (λ P. taken P t.0) (same_limited p.0 R p.2))
