-- From what the check of a rule set answers to what Admit answers of its words: the end, then main's measures.
-- Document 01, "Blocks and the rule stream", items 2 to 5; refusals 4 to 6.
use Rattle.std.specs.Prelude.{◌≡◌, refl, List, ℕ, ◌≤◌, ◌<◌, T, ltb, length, Err}
use Rattle.std.proofs.Math.Path.{ap}
use Rattle.std.proofs.Common.{sym, ◌∙◌, subst, arith, ltb→lt, lt→ltb}
use Rattle.eb3.specs.Refusal
use Rattle.eb3.specs.Generic.Booleans.{T_and, T_fst, T_snd}
use Rattle.eb3.specs.Cells.{total_cells}
use Rattle.eb3.specs.Editions.{Edition, Defined}
use Rattle.eb3.proofs.Laws.Editions.{edition_proper, only_edition_1}
use Rattle.eb3.specs.RuleSets.{RuleSet, attributes}
use Rattle.eb3.specs.Measures.{sat, measure_main}
use Rattle.eb3.proofs.Laws.CellCounts.{one_parameter_each, cells_below}
use Rattle.eb3.specs.RuleSpelling.{rules_words}
use Rattle.eb3.specs.Reading.{Read, refused, taken, pick}
use Rattle.eb3.proofs.Laws.Reading.{Sound, pick_true, pick_false}
use Rattle.eb3.proofs.Laws.Refusals.{Refuses, rules_refuse}
use Rattle.eb3.specs.RuleReading.{read_rules}
use Rattle.eb3.proofs.Laws.RuleReading.{FormOf, rules_sound}
use Rattle.eb3.specs.Answers.{Answer}
use Rattle.eb3.specs.Admission.{all_zero, ends_right}
use Rattle.eb3.specs.Judging.{judged}
use Rattle.eb3.proofs.Laws.Judging.{whole_refused, whole_taken}
use Rattle.eb3.specs.Judging.{whole_of}
use Rattle.measures.specs.Weighing.{cap, measure}
use Rattle.measures.specs.declared.Weight.{Weight}
use Rattle.words.specs.Checking.{last_of}
use Rattle.words.specs.Laws.Checking.{behind_part}
use Rattle.words.specs.Laws.Refusing.{refused_number}
use Rattle.rules.specs.declared.Rules.{Rules}
use Rattle.rules.specs.Sections.{rules_weighed, found_rules}
use Rattle.rules.specs.Laws.Answers.{IsFound, found_in, refusal_in}
use Rattle.refusals.specs.Numbers.{number, refusal}
use Rattle.refusals.specs.declared.Refusal.{Refusal}

-- What an answer says of the reading that it is of.
pub record Whole (t : List ℕ) (r : Read RuleSet) (left cells : ℕ) (w : Weight) : Type 0 where
  pub R : RuleSet
  pub rest : List ℕ
  pub reading : r ≡ taken R rest
  pub left_is : left ≡ length rest
  pub end : last_of left t ≡ rest
  pub cells_are : cells ≡ total_cells (attributes R)
  pub few : cells ≤ 1024
  pub weighs : measure w ≡ measure_main (sat cap) R

whole_by : (L : Edition) → Defined L → (t : List ℕ) (r : Read RuleSet) → Sound rules_words (FormOf L) t r → (left cells : ℕ) (w : Weight) → found_rules left cells w ≡ rules_weighed r → Whole t r left cells w
unfolding rules_weighed
whole_by L defined t (refused k) s left cells w e = absurd (subst IsFound e tt)
whole_by L defined t (taken R rest) s left cells w e =
    let l : left ≡ length rest = ap (found_in (λ (a : Rules). a.left) 0) e in
    let one : R.edition.function_parameters ≡ 1 = ap (λ (M : Edition). M.function_parameters) (s.1.1 ∙ only_edition_1 L defined) in
    let c : cells ≡ total_cells (attributes R) = ap (found_in (λ (a : Rules). a.cells) 0) e in
    record {
      R = R;
      rest = rest;
      reading = refl;
      left_is = l;
      end = behind_part (rules_words R) rest t left s.0 l;
      cells_are = c;
      few = omega (arith, c, cells_below R s.1.0 (one_parameter_each R s.1.0 one));
      weighs = ap (λ x. measure (found_in (λ (a : Rules). a.weight) w x)) e;
    }

-- In an edition that is defined.
module _ (L : Edition) (defined : Defined L) (t : List ℕ) where
  pub rules_found : (left cells : ℕ) (w : Weight) → found_rules left cells w ≡ rules_weighed (read_rules L t) → Whole t (read_rules L t) left cells w
  rules_found left cells w e = whole_by L defined t (read_rules L t) (rules_sound L (edition_proper L defined) t) left cells w e

  pub rules_refused : (k : Refusal) → Err k ≡ rules_weighed (read_rules L t) → (j : ℕ) × (whole_of (read_rules L t) ≡ Answer.refused j) × (k ≡ refusal j)
  unfolding rules_weighed
  rules_refused k e = go (read_rules L t) e
    where
      go : (r : Read RuleSet) → Err k ≡ rules_weighed r → (j : ℕ) × (whole_of r ≡ Answer.refused j) × (k ≡ refusal j)
      go (refused j) e = (j, whole_refused j, ap (refusal_in k) e)
      go (taken R rest) e = absurd (subst IsFound (sym e) tt)

  -- A rule set is refused by the very number of the refusal.
  pub rules_refused_by : (k : Refusal) → Err k ≡ rules_weighed (read_rules L t) → whole_of (read_rules L t) ≡ Answer.refused (number k)
  unfolding rules_weighed
  rules_refused_by k e = ap whole_of (go (read_rules L t) (rules_refuse L t) e) ∙ whole_refused (number k)
    where
      go : (r : Read RuleSet) → Refuses r → Err k ≡ rules_weighed r → r ≡ refused (number k)
      go (refused j) within f = refused_number (refused j) k within (record { code = j; read = refl; named = ap (refusal_in k) f })
      go (taken R rest) within f = absurd (subst IsFound (sym f) tt)

  module _ (left cells : ℕ) (w : Weight) (e : found_rules left cells w ≡ rules_weighed (read_rules L t)) where
    abbrev F : Whole t (read_rules L t) left cells w
    F = rules_found left cells w e

    taken_whole : whole_of (read_rules L t) ≡ pick (ends_right F.rest) (judged (total_cells (attributes F.R)) (measure_main (sat 65536) F.R)) (Answer.refused Refusal.form)
    taken_whole = ap whole_of F.reading ∙ whole_taken F.R F.rest

    -- Too much is left for the last block, or it is not zero;
    pub whole_long : 254 ≤ left → whole_of (read_rules L t) ≡ Answer.refused 4
    whole_long h = taken_whole ∙ pick_false _ _ (ends_right F.rest)
        (λ x. let l = ltb→lt (length F.rest) 254 (T_fst (ltb (length F.rest) 254) (all_zero F.rest) x) in omega (arith, F.left_is))

    pub whole_behind : (T (all_zero (last_of left t)) → ⊥) → whole_of (read_rules L t) ≡ Answer.refused 4
    whole_behind h = taken_whole ∙ pick_false _ _ (ends_right F.rest)
        (λ x. h (subst (λ s. T (all_zero s)) (sym F.end) (T_snd (ltb (length F.rest) 254) (all_zero F.rest) x)))

    -- else main is judged by its measures.
    pub whole_judged : left < 254 → T (all_zero (last_of left t)) → whole_of (read_rules L t) ≡ judged cells (measure w)
    whole_judged h z = taken_whole ∙ (pick_true _ _ (ends_right F.rest)
        (T_and (ltb (length F.rest) 254) (all_zero F.rest) (lt→ltb (length F.rest) 254 (omega (arith, F.left_is))) (subst (λ s. T (all_zero s)) F.end z))
        ∙ (λ i. judged (sym F.cells_are i) (sym F.weighs i)))
