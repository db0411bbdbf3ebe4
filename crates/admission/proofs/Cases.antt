-- A case for each way that these functions return (document 01, "Operations": Admit; refusals 4 to 8).
use mathlib.Core.Path.{◌≡◌, ap, sym, ◌∙◌, subst}
use mathlib.Core.Bool.{Bool, true, false, not}
use mathlib.Core.List.{List, ◌++◌}
use Prim.Native.Nat.{ℕ, ◌*◌, ◌≤◌, ◌<◌}
use native.Mathlib.Omega.{arith}
use lib.Dec.{T, leb, leb→le, le→leb}
use lib.ListN.{length, drop}
use borrow.Author.Tests.{not-true, not-false}
use Rattle.eb3.specs.Editions.{edition_1}
use Rattle.eb3.specs.Blocks.{stream}
use Rattle.eb3.proofs.Laws.Reading.{pick_true, pick_false}
use Rattle.eb3.specs.RuleReading.{read_rules}
use Rattle.eb3.specs.Admission.{all_zero}
use Rattle.eb3.specs.Judging.{judged}
use Rattle.measures.specs.Weighing.{measure, reported}
use Rattle.measures.specs.declared.Weight.{Weight}
use Rattle.measures.specs.declared.Limits.{Limits}
use Rattle.words.specs.Checking.{last_of}
use Rattle.eb3.proofs.Laws.Editions.{edition_1_defined}
use Rattle.rules.specs.declared.Rules.{Rules}
use Rattle.rules.specs.Sections.{rules_weighed, found_rules}
use Rattle.rules.specs.Laws.Whole.{rules_found, rules_refused, whole_long, whole_behind, whole_judged}
use Rattle.admission.specs.Answering.{admitted, read_whole}
use Rattle.admission.specs.Admitting.{Described, WordsAdmitted, FileAdmitted}
use Rattle.std.specs.Prelude.{Ok, Err, Result}
use Rattle.refusals.specs.declared.Refusal.{Refusal}
use Rattle.refusals.specs.declared.Refusal.TheVariants.{Form, Size, Breadth}
use Rattle.refusals.specs.Numbers.{refusal}

-- ── judging ──

module _ (cells : ℕ) (w : Weight) where
  pub judge_size : 8192 < w.reach → Err Size ≡ admitted (judged cells (measure w))
  unfolding admitted refusal
  judge_size h = sym (ap admitted (pick_false _ _ (leb w.reach 8192) (λ t. let k : w.reach ≤ 8192 = leb→le w.reach 8192 t in omega arith)))

  pub judge_breadth : w.reach ≤ 8192 → 65535 < w.breadth → Err Breadth ≡ admitted (judged cells (measure w))
  unfolding admitted refusal
  judge_breadth h k = sym (ap admitted (pick_true _ _ (leb w.reach 8192) (le→leb w.reach 8192 h)
      ∙ pick_false _ _ (leb w.breadth 65535) (λ t. let l : w.breadth ≤ 65535 = leb→le w.breadth 65535 t in omega arith)))

  pub judge_fine : (r : Limits) → w.reach ≤ 8192 → w.breadth ≤ 65535 → r ≡ reported cells (measure w) → Ok r ≡ admitted (judged cells (measure w))
  unfolding admitted
  judge_fine r h k e = ap Ok e ∙ sym (ap admitted (pick_true _ _ (leb w.reach 8192) (le→leb w.reach 8192 h)
      ∙ pick_true _ _ (leb w.breadth 65535) (le→leb w.breadth 65535 k)))

-- ── the words after the first two ──

module _ (t : List ℕ) (p : Result Rules Refusal) (e : p ≡ rules_weighed (read_rules edition_1 t)) where
  pub words_refused : (k : Refusal) → p ≡ Err k → Err k ≡ read_whole t
  unfolding admitted
  words_refused k f = let u = rules_refused edition_1 edition_1_defined t k (sym f ∙ e) in ap Err u.2 ∙ sym (ap admitted u.1)

  module _ (left cells : ℕ) (w : Weight) (f : p ≡ found_rules left cells w) where
    pub words_few : cells < 4294967296
    words_few = let h : cells ≤ 1024 = (rules_found edition_1 edition_1_defined t left cells w (sym f ∙ e)).few in omega arith

    pub words_long : 254 ≤ left → Err Form ≡ read_whole t
    unfolding admitted refusal
    words_long h = sym (ap admitted (whole_long edition_1 edition_1_defined t left cells w (sym f ∙ e) h))

    module _ (u : List ℕ) (l : u ≡ last_of left t) (b : Bool) (z : b ≡ all_zero u) where
      same : b ≡ all_zero (last_of left t)
      same = z ∙ ap all_zero l

      pub words_behind : not b ≡ true → Err Form ≡ read_whole t
      unfolding admitted refusal
      words_behind n = sym (ap admitted (whole_behind edition_1 edition_1_defined t left cells w (sym f ∙ e) (λ x. subst T (sym same ∙ not-true b n) x)))

      pub words_judged : (c : ℕ) (r : Result Limits Refusal) → left < 254 → not b ≡ false → c ≡ cells → r ≡ admitted (judged c (measure w)) → r ≡ read_whole t
      words_judged c r h n g k = k ∙ (ap (λ j. admitted (judged j (measure w))) g
          ∙ sym (ap admitted (whole_judged edition_1 edition_1_defined t left cells w (sym f ∙ e) h (subst T (sym (sym same ∙ not-false b n)) tt))))

-- What was admitted of the words lent is so of the stream.
pub file_admitted : (rules words D : List ℕ) (n : ℕ) (r : Result Limits Refusal) (words' T D' t : List ℕ) → words' ≡ stream rules ++ drop (254 * n) words → t ≡ drop 2 (stream rules) → WordsAdmitted t D r T D' → FileAdmitted rules words D n r words' T D'
file_admitted rules words D n r words' T D' t j e a = record { answer = a.answer ∙ ap read_whole e; decoded = j; described = subst (λ u. Described u (length D) T D') e a.described }
