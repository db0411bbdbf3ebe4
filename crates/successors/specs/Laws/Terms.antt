-- A running term's operands, as they come after its code: what the code, which works on words, says of the term (document 01, "Moves, in order").
use Rattle.std.specs.Prelude.{◌≡◌, refl, ℕ, ◌≤◌, length, take, drop}
use Rattle.std.proofs.Common.{sym, ◌∙◌, arith, length-append, take_at, drop_at}
use Rattle.std.proofs.Math.Path.{ap}
use mathlib.Core.List.{List, ◌∷◌, ◌++◌, append_assoc}
use Rattle.eb3.specs.Expressions.{Cond}
use Rattle.eb3.specs.Scopes.{Scope}
use Rattle.eb3.specs.Terms.{Term, Sequence, Choice, Star, Parallel, Guard, Mask}
use Rattle.eb3.specs.Spelling.{cond_words, words}
use Rattle.eb3.specs.Sizes.{size}
use Rattle.expressions.specs.Answering.{CondAt}
use Rattle.listing.specs.Laws.Fits.{fits_length}
use Rattle.listing.specs.Listing.{Fits, TermAt}
use Rattle.listing.specs.Positions.{TwoAt}
use Rattle.listing.specs.Laws.Positions.{two_at}

-- ── operands ──

module _ (s : List ℕ) (P : Scope) (rest : List ℕ) where
  pub sequence_two : (E F : Term) → TermAt s P (Sequence E F) rest → TwoAt (drop 1 s) P E F rest
  unfolding words
  sequence_two E F h = two_at (drop 1 s) P E F rest h.plain h.fits.0 h.fits.1 (ap (drop 1) h.spelled) h.closed

  pub choice_two : (E F : Term) → TermAt s P (Choice E F) rest → TwoAt (drop 1 s) P E F rest
  unfolding words
  choice_two E F h = two_at (drop 1 s) P E F rest h.plain h.fits.0 h.fits.1 (ap (drop 1) h.spelled) h.closed

  pub star_first : (E : Term) → TermAt s P (Star E) rest → TermAt (drop 1 s) P E rest
  unfolding words
  star_first E h = record { plain = h.plain; fits = h.fits; spelled = ap (drop 1) h.spelled; closed = h.closed }

  pub guard_condition : (C : Cond) (E : Term) → TermAt s P (Guard C E) rest → CondAt (drop 1 s) P C (words P.edition.width E ++ rest)
  unfolding words
  guard_condition C E h = record { plain = h.plain; in_scope = h.fits.0; spelled = ap (drop 1) h.spelled ∙ append_assoc (cond_words P.edition.width C) (words P.edition.width E) rest }

  pub guard_operand : (C : Cond) (E : Term) → TermAt s P (Guard C E) rest → TermAt (words P.edition.width E ++ rest) P E rest
  guard_operand C E h = record { plain = h.plain; fits = h.fits.1; spelled = refl; closed = h.closed }

  parallel_spelled : (Δ : Mask) (E F : Term) → TermAt s P (Parallel Δ E F) rest → s ≡ (25 ∷ Δ) ++ ((words P.edition.width E ++ words P.edition.width F) ++ rest)
  unfolding words
  parallel_spelled Δ E F h = h.spelled ∙ ap (λ l. 25 ∷ l) (append_assoc Δ (words P.edition.width E ++ words P.edition.width F) rest)

  pub parallel_two : (Δ : Mask) (E F : Term) → TermAt s P (Parallel Δ E F) rest → TwoAt (drop 5 s) P E F rest
  parallel_two Δ E F h =
      let l : length (25 ∷ Δ) ≡ 5 = omega (arith, h.fits.0) in
      two_at (drop 5 s) P E F rest h.plain h.fits.1 h.fits.2
      (ap (drop 5) (parallel_spelled Δ E F h) ∙ drop_at (25 ∷ Δ) ((words P.edition.width E ++ words P.edition.width F) ++ rest) 5 l)
      h.closed

  pub parallel_head : (Δ : Mask) (E F : Term) → TermAt s P (Parallel Δ E F) rest → take 5 s ≡ 25 ∷ Δ
  parallel_head Δ E F h =
      let l : length (25 ∷ Δ) ≡ 5 = omega (arith, h.fits.0) in
      ap (take 5) (parallel_spelled Δ E F h) ∙ take_at (25 ∷ Δ) ((words P.edition.width E ++ words P.edition.width F) ++ rest) 5 l

  pub parallel_long : (Δ : Mask) (E F : Term) → TermAt s P (Parallel Δ E F) rest → 5 ≤ length s
  parallel_long Δ E F h = omega (arith, h.fits.0, ap length (parallel_spelled Δ E F h), length-append (25 ∷ Δ) ((words P.edition.width E ++ words P.edition.width F) ++ rest))

-- ── sizes ──

pub size_there : (P : Scope) (E : Term) → Fits P E → size P.edition.width E ≡ length (words P.edition.width E)
size_there P E h = sym (fits_length P E h)

-- ── the second of two operands ──

module _ {t : List ℕ} {P : Scope} {E F : Term} {rest : List ℕ} (h : TwoAt t P E F rest) (n : ℕ) (e : n ≡ size P.edition.width E) where
  behind_size : n ≡ length (words P.edition.width E)
  behind_size = e ∙ size_there P E h.first.fits

  right_spelled : drop n t ≡ words P.edition.width F ++ rest
  right_spelled = ap (drop n) h.first.spelled ∙ drop_at (words P.edition.width E) (words P.edition.width F ++ rest) n (sym behind_size)

  pub right_there : TermAt (drop n t) P F rest
  right_there = record { plain = h.second.plain; fits = h.second.fits; spelled = right_spelled; closed = h.second.closed }

  pub left_within : n ≤ length t
  left_within = omega (arith, behind_size, ap length h.first.spelled, length-append (words P.edition.width E) (words P.edition.width F ++ rest))
