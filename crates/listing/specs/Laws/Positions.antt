-- Laws of where the operands of a term are: the code at its beginning says the term's form, and each operand is where its words begin.
-- Document 01, "Moves, in order".
use Rattle.std.specs.Prelude.{◌≡◌, refl, ℕ, ◌≤◌, length, take, drop, get_or}
use Rattle.std.proofs.Math.Path.{ap}
use Rattle.std.proofs.Common.{◌∙◌, arith, length-append}
use mathlib.Core.List.{List, ◌∷◌, ◌++◌, append_assoc}
use Rattle.std.proofs.Math.Seq.{take_at, drop_at}
use Rattle.eb3.specs.Expressions.{Cond}
use Rattle.eb3.specs.Scopes.{Scope}
use Rattle.eb3.specs.Terms.{Term, Done, Internal, Perform, Sequence, Choice, Star, Parallel, Guard, VisibleAction}
use Rattle.eb3.specs.Spelling.{arguments_words, cond_words, words}
use Rattle.words.specs.Checking.{last_of}
use Rattle.words.specs.Laws.Checking.{last_behind}
use Rattle.expressions.specs.Answering.{Plain}
use Rattle.actions.specs.Codes.{Closed, ActionAt}
use Rattle.listing.specs.Listing.{Fits, TermAt}
use Rattle.listing.specs.Positions.{code_in_front, TwoAt, MaskedAt, GuardedAt}

-- ── the code at the beginning ──

pub words_begin : (w : ℕ) (E : Term) (rest : List ℕ) → get_or (words w E ++ rest) 0 0 ≡ code_in_front E
unfolding words code_in_front
words_begin w Done rest = refl
words_begin w Internal rest = refl
words_begin w (Perform a) rest = refl
words_begin w (Sequence E F) rest = refl
words_begin w (Choice E F) rest = refl
words_begin w (Star E) rest = refl
words_begin w (Parallel Δ E F) rest = refl
words_begin w (Guard C E) rest = refl

code_large : (E : Term) → 20 ≤ code_in_front E
unfolding code_in_front
code_large Done = omega arith
code_large Internal = omega arith
code_large (Perform a) = omega arith
code_large (Sequence E F) = omega arith
code_large (Choice E F) = omega arith
code_large (Star E) = omega arith
code_large (Parallel Δ E F) = omega arith
code_large (Guard C E) = omega arith

-- Words that begin with a term do not begin with a constant's code, so no argument of an action is read there (`Closed`).
pub term_closed : (w : ℕ) (E : Term) (rest : List ℕ) → Closed (words w E ++ rest)
term_closed w E rest e = omega (arith, e, words_begin w E rest, code_large E)

pub term_front : (s : List ℕ) (P : Scope) (E : Term) (rest : List ℕ) → TermAt s P E rest → get_or s 0 0 ≡ code_in_front E
term_front s P E rest h = ap (λ u. get_or u 0 0) h.spelled ∙ words_begin P.edition.width E rest

-- ── operands ──

pub two_at : (t : List ℕ) (P : Scope) (E F : Term) (rest : List ℕ) → Plain P → Fits P E → Fits P F → t ≡ (words P.edition.width E ++ words P.edition.width F) ++ rest → Closed rest → TwoAt t P E F rest
two_at t P E F rest p e f h c = record {
  first = record { plain = p; fits = e; spelled = h ∙ append_assoc (words P.edition.width E) (words P.edition.width F) rest; closed = term_closed P.edition.width F rest };
  second = record { plain = p; fits = f; spelled = refl; closed = c };
}

behind_code : (k l : ℕ) (t u : List ℕ) → k ∷ t ≡ l ∷ u → t ≡ u
behind_code k l t u e = ap (drop 1) e

pub action_at : (s : List ℕ) (P : Scope) (a : VisibleAction) (rest : List ℕ) → TermAt s P (Perform a) rest → ActionAt (drop 1 s) a rest
unfolding words
action_at s P a rest h = record {
  small = h.fits;
  spelled = ap (drop 1) h.spelled ∙ ap (λ w. a.label ∷ (arguments_words w a.arguments ++ rest)) h.plain.one_word;
  closed = h.closed;
}

module _ (t : List ℕ) (P : Scope) (rest : List ℕ) where
  pub perform_at : (a : VisibleAction) → TermAt (21 ∷ t) P (Perform a) rest → ActionAt t a rest
  perform_at a h = action_at (21 ∷ t) P a rest h

  pub sequence_at : (E F : Term) → TermAt (22 ∷ t) P (Sequence E F) rest → TwoAt t P E F rest
  unfolding words
  sequence_at E F h = two_at t P E F rest h.plain h.fits.0 h.fits.1 (ap (drop 1) h.spelled) h.closed

  pub choice_at : (E F : Term) → TermAt (23 ∷ t) P (Choice E F) rest → TwoAt t P E F rest
  unfolding words
  choice_at E F h = two_at t P E F rest h.plain h.fits.0 h.fits.1 (ap (drop 1) h.spelled) h.closed

  pub star_at : (E : Term) → TermAt (24 ∷ t) P (Star E) rest → TermAt t P E rest
  unfolding words
  star_at E h = record { plain = h.plain; fits = h.fits; spelled = ap (drop 1) h.spelled; closed = h.closed }

  pub parallel_at : (Δ : List ℕ) (E F : Term) → TermAt (25 ∷ t) P (Parallel Δ E F) rest → MaskedAt t P Δ E F rest
  unfolding words
  parallel_at Δ E F h =
      let e : t ≡ Δ ++ ((words P.edition.width E ++ words P.edition.width F) ++ rest) = ap (drop 1) h.spelled ∙ append_assoc Δ (words P.edition.width E ++ words P.edition.width F) rest in
      record {
        mask = ap (take 4) e ∙ take_at Δ ((words P.edition.width E ++ words P.edition.width F) ++ rest) 4 h.fits.0;
        sides = two_at (drop 4 t) P E F rest h.plain h.fits.1 h.fits.2 (ap (drop 4) e ∙ drop_at Δ ((words P.edition.width E ++ words P.edition.width F) ++ rest) 4 h.fits.0) h.closed;
      }

  pub guard_at : (C : Cond) (E : Term) → TermAt (26 ∷ t) P (Guard C E) rest → GuardedAt t P C E rest
  unfolding words
  guard_at C E h = record {
    condition = record { plain = h.plain; in_scope = h.fits.0; spelled = ap (drop 1) h.spelled ∙ append_assoc (cond_words P.edition.width C) (words P.edition.width E) rest };
    guarded = record { plain = h.plain; fits = h.fits.1; spelled = refl; closed = h.closed };
  }

-- ── what comes after an operand ──

pub behind_term : (t : List ℕ) (P : Scope) (E : Term) (rest : List ℕ) → TermAt t P E rest → last_of (length rest) t ≡ rest
behind_term t P E rest h = ap (last_of (length rest)) h.spelled ∙ last_behind (words P.edition.width E) rest

pub behind_shorter : (t : List ℕ) (P : Scope) (E : Term) (rest : List ℕ) → TermAt t P E rest → length rest ≤ length t
behind_shorter t P E rest h = omega (arith, ap length h.spelled, length-append (words P.edition.width E) rest)

pub second_at : {t : List ℕ} {P : Scope} {E F : Term} {rest : List ℕ} (n : ℕ) (u : List ℕ) → TwoAt t P E F rest → n ≡ length (words P.edition.width F ++ rest) → u ≡ last_of n t → TermAt u P F rest
second_at {t} {P} {E} {F} {rest} n u h e f =
    let q : u ≡ words P.edition.width F ++ rest = f ∙ ap (λ k. last_of k t) e ∙ behind_term t P E (words P.edition.width F ++ rest) h.first in
    record { plain = h.second.plain; fits = h.second.fits; spelled = q; closed = h.second.closed }
