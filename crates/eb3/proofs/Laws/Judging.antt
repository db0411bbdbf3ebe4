-- Refusals 7 and 8 and the sizes reported, from measures cut off at 65,536: the same as from main's unfolding (`judged_alike`).
use Rattle.std.specs.Prelude.{◌≡◌, refl, Bool, true, false, List, ℕ, ◌≤◌, leb}
use Rattle.std.proofs.Math.Path.{ap, sym}
use Rattle.std.proofs.Common.{◌∙◌, arith, le→leb}
use Rattle.std.proofs.Math.Decide.{dec_le}
use Rattle.std.proofs.Math.Dec.{leb→le}
use Rattle.eb3.specs.Refusal
use Rattle.eb3.specs.Cells.{total_cells}
use Rattle.eb3.specs.Sizes.{reach, breadth}
use Rattle.eb3.specs.RuleSets.{RuleSet, attributes}
use Rattle.eb3.specs.Unfolding.{unfold_main}
use Rattle.eb3.specs.Measures.{sat, Measure, measure_of, measure_main}
use Rattle.eb3.proofs.Laws.Saturation.{main_sat, main_answers}
use Rattle.eb3.specs.Reading.{Read, pick}
use Rattle.eb3.specs.RuleReading.{read_rules}
use Rattle.eb3.specs.Blocks.{Opened, open_blocks}
use Rattle.eb3.proofs.Laws.Reading.{pick_true, pick_false}
use Rattle.eb3.specs.Answers.{Answer, refused, answered, and_then, Sizes}
use Rattle.eb3.specs.Admission.{ends_right, ended, within_limits, admission}
use Rattle.eb3.specs.Operations.{sizes_needed, admit}
use Rattle.eb3.specs.Judging.{judged, whole_of}

module _ (R : RuleSet) where
  m : Measure
  m = measure_main (sat 65536) R

  cut_reach : m.reach ≡ sat 65536 (reach R.edition.width (unfold_main R))
  unfolding m
  cut_reach = ap (λ (x : Measure). x.reach) (main_sat 65536 R)

  cut_breadth : m.breadth ≡ sat 65536 (breadth (unfold_main R))
  unfolding m
  cut_breadth = ap (λ (x : Measure). x.breadth) (main_sat 65536 R)

  pub judged_alike : and_then (within_limits R) (λ Q. answered (sizes_needed Q)) ≡ judged (total_cells (attributes R)) (measure_main (sat 65536) R)
  unfolding within_limits and_then m
  judged_alike = go (dec_le (reach R.edition.width (unfold_main R)) 8192) (dec_le (breadth (unfold_main R)) 65535)
    where
      lefts : Answer RuleSet → Answer Sizes
      lefts a = and_then a (λ Q. answered (sizes_needed Q))

      go : Dec (reach R.edition.width (unfold_main R) ≤ 8192) → Dec (breadth (unfold_main R) ≤ 65535) → lefts (within_limits R) ≡ judged (total_cells (attributes R)) (measure_main (sat 65536) R)
      go (no h) k =
          ap lefts (pick_false _ _ (leb (reach R.edition.width (unfold_main R)) 8192) (λ t. h (leb→le (reach R.edition.width (unfold_main R)) 8192 t)))
          ∙ sym (pick_false _ _ (leb (measure_main (sat 65536) R).reach 8192) (λ t. h (omega (arith, leb→le (measure_main (sat 65536) R).reach 8192 t, cut_reach))))
      go (yes h) (no k) =
          ap lefts (pick_true _ _ (leb (reach R.edition.width (unfold_main R)) 8192) (le→leb (reach R.edition.width (unfold_main R)) 8192 h) ∙ pick_false _ _ (leb (breadth (unfold_main R)) 65535) (λ t. k (leb→le (breadth (unfold_main R)) 65535 t)))
          ∙ sym (pick_true _ _ (leb (measure_main (sat 65536) R).reach 8192) (le→leb (measure_main (sat 65536) R).reach 8192 (omega (arith, cut_reach)))
          ∙ pick_false _ _ (leb (measure_main (sat 65536) R).breadth 65535) (λ t. k (omega (arith, leb→le (measure_main (sat 65536) R).breadth 65535 t, cut_breadth))))
      go (yes h) (yes k) =
          let e : measure_main (sat 65536) R ≡ measure_of R.edition.width (unfold_main R) = main_answers 65536 (omega arith) (omega arith) R (omega (arith, cut_reach)) (omega (arith, cut_breadth)) in
          ap lefts (pick_true _ _ (leb (reach R.edition.width (unfold_main R)) 8192) (le→leb (reach R.edition.width (unfold_main R)) 8192 h) ∙ pick_true _ _ (leb (breadth (unfold_main R)) 65535) (le→leb (breadth (unfold_main R)) 65535 k))
          ∙ (sym (pick_true _ _ (leb (reach R.edition.width (unfold_main R)) 8192) (le→leb (reach R.edition.width (unfold_main R)) 8192 h) ∙ pick_true _ _ (leb (breadth (unfold_main R)) 65535) (le→leb (breadth (unfold_main R)) 65535 k))
          ∙ ap (judged (total_cells (attributes R))) (sym e))

pub whole_refused : (k : ℕ) → whole_of (Read.refused k) ≡ refused k
unfolding whole_of ended and_then
whole_refused k = refl

-- What was read whole: its end, then main's measures.
pub whole_taken : (R : RuleSet) (rest : List ℕ) → whole_of (Read.taken R rest) ≡ pick (ends_right rest) (judged (total_cells (attributes R)) (measure_main (sat 65536) R)) (refused Refusal.form)
unfolding whole_of ended and_then
whole_taken R rest = go (ends_right rest)
  where
    go : (b : Bool) → and_then (and_then (pick b (answered R) (refused Refusal.form)) within_limits) (λ Q. answered (sizes_needed Q))
        ≡ pick b (judged (total_cells (attributes R)) (measure_main (sat 65536) R)) (refused Refusal.form)
    go true = judged_alike R
    go false = refl

pub admit_by_parts : (rules : List ℕ) → admit rules ≡ and_then (open_blocks rules) (λ o. whole_of (read_rules o.edition o.words))
unfolding admit admission whole_of and_then
admit_by_parts rules = go (open_blocks rules)
  where
    go : (a : Answer Opened) → and_then (and_then (and_then a λ o. ended (read_rules o.edition o.words)) within_limits) (λ R. answered (sizes_needed R))
        ≡ and_then a (λ o. and_then (and_then (ended (read_rules o.edition o.words)) within_limits) (λ R. answered (sizes_needed R)))
    go (refused k) = refl
    go (answered words) = refl
