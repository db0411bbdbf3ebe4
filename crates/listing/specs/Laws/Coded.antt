-- Terms one after the other, and conditions, as listing and the crates that use it read them, are what the one table of codes has at edition 1's shape, which
-- is 0 (document 01, "Codes stand before their operands").
use Rattle.std.specs.Prelude.{◌≡◌, refl, List, [], ◌∷◌, ◌++◌, ℕ, ◌≤◌, ◌<◌, length}
use Rattle.std.proofs.Common.{sym, ap, ◌∙◌, append-nil, arith}
use Rattle.eb3.specs.Generic.AllLists.{All}
use Rattle.eb3.specs.Expressions.{Cond}
use Rattle.eb3.specs.Scopes.{Scope}
use Rattle.eb3.specs.Terms.{Term, Done, Internal, Perform, Sequence, Choice, Star, Parallel, Guard}
use Rattle.eb3.specs.Spelling.{cond_words, words}
use Rattle.codes.specs.Shapes.{Shaped}
use Rattle.codes.specs.Rows.{Piece, of_term, of_cond, term_fits, piece_fits, IsTerm, Ordered, row_words, Closing}
use Rattle.codes.specs.Rows.{RowAt as Coded}
use Rattle.codes.specs.Laws.Shapes.{one_parameter}
use Rattle.expressions.specs.Answering.{Plain, CondAt}
use Rattle.actions.specs.Codes.{Closed}
use Rattle.listing.specs.Listing.{Fits, TermAt}
use Rattle.listing.specs.Rows.{terms_words, RowAt}
use Rattle.listing.specs.Laws.Rows.{row_of_one}

abbrev pub pieces : List Term → List Piece
pieces [] = []
pieces (E ∷ Es) = of_term E ∷ pieces Es

pub pieces_counted : (Es : List Term) → length (pieces Es) ≡ length Es
pieces_counted [] = refl
pieces_counted (E ∷ Es) = omega (arith, pieces_counted Es)

spelled_alike : (w : ℕ) (Es : List Term) → terms_words w Es ≡ row_words w (pieces Es)
spelled_alike w [] = refl
spelled_alike w (E ∷ Es) = ap (λ l. words w E ++ l) (spelled_alike w Es)

all_terms : (Es : List Term) → All IsTerm (pieces Es)
all_terms [] = tt
all_terms (E ∷ Es) = (tt, all_terms Es)

in_order : (Es : List Term) → Ordered (pieces Es)
in_order [] = tt
in_order (E ∷ Es) = all_terms Es

closes : (Es : List Term) (rest : List ℕ) → Closed rest → Closing (pieces Es) rest
closes [] rest c = tt
closes (E ∷ Es) rest c = c

module _ (P : Scope) (plain : Plain P) where
  pub shaped : Shaped 0 P
  shaped = record { now_arity = λ f h. ap (λ (a : ℕ → ℕ). a f) plain.one_parameter ∙ sym (one_parameter f); before_arity = λ f h. ap (λ (a : ℕ → ℕ). a f) plain.one_parameter ∙ sym (one_parameter f) }

  arguments_fit : (xs : List ℕ) → All (λ x. x < 64) xs → All (λ v. v ≤ P.edition.top) xs
  arguments_fit [] h = tt
  arguments_fit (x ∷ xs) h = (omega (arith, plain.largest, h.0), arguments_fit xs h.1)

  fits_alike : (E : Term) → Fits P E → term_fits P E
  fits_alike Done h = tt
  fits_alike Internal h = tt
  fits_alike (Perform a) h = (h.1, arguments_fit a.arguments h.2)
  fits_alike (Sequence E F) h = (fits_alike E h.0, fits_alike F h.1)
  fits_alike (Choice E F) h = (fits_alike E h.0, fits_alike F h.1)
  fits_alike (Star E) h = fits_alike E h
  fits_alike (Parallel Δ E F) h = (h.0, fits_alike E h.1, fits_alike F h.2)
  fits_alike (Guard C E) h = (h.0, fits_alike E h.1)

  fit_alike : (Es : List Term) → All (Fits P) Es → All (piece_fits P) (pieces Es)
  fit_alike [] h = tt
  fit_alike (E ∷ Es) h = (fits_alike E h.0, fit_alike Es h.1)

pub coded_row : {s : List ℕ} {P : Scope} {Es : List Term} {rest : List ℕ} → RowAt s P Es rest → Coded 0 s P (pieces Es) rest
coded_row {s} {P} {Es} {rest} h = record {
  shaped = shaped P h.plain;
  fit = fit_alike P h.plain Es h.fit;
  ordered = in_order Es;
  spelled = h.spelled ∙ ap (λ l. l ++ rest) (spelled_alike P.edition.width Es ∙ ap (λ w. row_words w (pieces Es)) h.plain.one_word);
  closed = closes Es rest h.closed;
}

pub coded_term : {s : List ℕ} {P : Scope} {E : Term} {rest : List ℕ} → TermAt s P E rest → Coded 0 s P (of_term E ∷ []) rest
coded_term {s} {P} {E} {rest} h = coded_row (row_of_one s P E rest h)

pub coded_condition : {s : List ℕ} {P : Scope} {C : Cond} {rest : List ℕ} → CondAt s P C rest → Coded 0 s P (of_cond C ∷ []) rest
coded_condition {s} {P} {C} {rest} h = record {
  shaped = shaped P h.plain;
  fit = (h.in_scope, tt);
  ordered = tt;
  spelled = h.spelled ∙ ap (λ l. l ++ rest) (sym (append-nil (cond_words P.edition.width C)) ∙ ap (λ w. row_words w (of_cond C ∷ [])) h.plain.one_word);
  closed = tt;
}
