-- A rule set whose blocks open: its stream as it is lent, and what opening it says of Admit (document 01, "Blocks and the
-- rule stream"; refusals 1 to 3).
use Rattle.std.specs.Prelude.{◌≡◌, true, List, ◌++◌, ℕ, ◌-◌, ◌*◌, ◌%◌, ◌≤◌, T, length, take, drop, Err, Result}
use Rattle.std.proofs.Math.Path.{ap, sym}
use Rattle.std.proofs.Common.{◌∙◌, subst, arith, length-drop, take_at, eq-eqb, le-leb}
use Rattle.std.proofs.lemmas.List.{drop-append-le}
use Rattle.eb3.specs.Refusal as Why
use Rattle.eb3.specs.Generic.Lists.{one_of, all_of, one_of_more}
use Rattle.eb3.specs.Blocks.{block_count, stream, whole_blocks, open_blocks}
use Rattle.eb3.specs.Admission.{ended, within_limits, admission}
use Rattle.eb3.proofs.Laws.Admission.{stream_length}
use Rattle.eb3.proofs.Laws.Refusals.{admission_within, refused_within}
use Rattle.eb3.specs.Answers.{refused, and_then}
use Rattle.eb3.specs.RuleReading.{read_rules}
use Rattle.eb3.specs.Operations.{admit}
use Rattle.eb3.proofs.Laws.Judging.{admit_by_parts}
use Rattle.eb3.specs.Judging.{whole_of}
use Rattle.blocks.specs.Files.{Opens}
use Rattle.blocks.specs.Opening.{opening}
use Rattle.blocks.specs.Laws.Opening.{unopened}
use Rattle.admission.specs.Answering.{admitted, read_whole}
use Rattle.refusals.specs.declared.Refusal.{Refusal}
use Rattle.refusals.specs.Numbers.{number}
use Rattle.refusals.specs.Laws.Numbers.{refused_by}
use Rattle.measures.specs.declared.Limits.{Limits}

-- ── the stream ──

module _ (s : List ℕ) (n : ℕ) (e : length s ≡ 512 * n) (some : 1 ≤ n) (few : n ≤ 64) where
  abbrev counted : block_count s ≡ n
  counted = omega arith

  stream_long : length (stream s) ≡ 254 * n
  stream_long =
      let a : length s % 512 ≡ 0 = omega arith in let b : 1 ≤ block_count s = omega arith in let c : block_count s ≤ 64 = omega arith in
      let w : whole_blocks s ≡ true = rw (eq-eqb _ _ a, le-leb _ _ b, le-leb _ _ c) in
      stream_length s (subst T (sym w) tt) ∙ ap (λ m. 254 * m) counted

  module _ (ws ws₀ : List ℕ) (j : ws ≡ stream s ++ drop (254 * n) ws₀) where
    -- Its words but the first two, lent.
    pub stream_part : take (254 * n - 2) (drop 2 ws) ≡ drop 2 (stream s)
    stream_part =
        let h : 2 ≤ length (stream s) = omega (arith, stream_long) in
        ap (λ u. take (254 * n - 2) (drop 2 u)) j
        ∙ (ap (take (254 * n - 2)) (drop-append-le 2 (stream s) _ h)
        ∙ take_at (drop 2 (stream s)) _ (254 * n - 2) (length-drop 2 (stream s) ∙ ap (λ m. m - 2) stream_long))

-- ── blocks ──

module _ (s : List ℕ) (p : Result ℕ Refusal) (e : p ≡ opening s (open_blocks s)) where
  pub admit_refused : (k : Refusal) → p ≡ Err k → Err k ≡ admitted (admit s)
  unfolding admitted and_then
  admit_refused k f =
      let u = unopened s _ k (sym f ∙ e) in
      ap Err u.named ∙ sym (ap admitted (admit_by_parts s ∙ ap (λ a. and_then a (λ o. whole_of (read_rules o.edition o.words))) u.is))

  -- A refused file is refused by Admit as well, so by a number from 1 to 8.
  within : (j : ℕ) → open_blocks s ≡ refused j → T (one_of Why.of_any j)
  unfolding admission and_then one_of all_of
  within j f =
      one_of_more Why.of_any Why.of_admission tt j (refused_within Why.of_admission (admission s) (admission_within s) j
      (ap (λ a. and_then (and_then a λ o. ended (read_rules o.edition o.words)) within_limits) f))

  pub open_refused : (k : Refusal) → p ≡ Err k → open_blocks s ≡ refused (number k)
  open_refused k f = refused_by k (open_blocks s) within (unopened s _ k (sym f ∙ e))

pub admit_read : (s : List ℕ) → Opens s → (r : Result Limits Refusal) → r ≡ read_whole (drop 2 (stream s)) → r ≡ admitted (admit s)
unfolding and_then
admit_read s o r g = g ∙ sym (ap admitted (admit_by_parts s ∙ ap (λ a. and_then a (λ o. whole_of (read_rules o.edition o.words))) o))
