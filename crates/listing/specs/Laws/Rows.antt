-- Laws of terms in a row: one term is a row, and the words of a row after another (document 01, "Moves, in order": the operands of a term come one after the
-- other).
use Rattle.std.specs.Prelude.{◌≡◌, refl, List, [], ◌∷◌, ◌++◌, ℕ}
use Rattle.std.proofs.Common.{sym, ap, ◌∙◌, append-nil, append_assoc}
use Rattle.eb3.specs.Scopes.{Scope}
use Rattle.eb3.specs.Terms.{Term}
use Rattle.eb3.specs.Spelling.{words}
use Rattle.listing.specs.Listing.{TermAt}
use Rattle.listing.specs.Rows.{terms_words, RowAt}

-- One term is a row.
pub row_of_one : (s : List ℕ) (P : Scope) (E : Term) (rest : List ℕ) → TermAt s P E rest → RowAt s P (E ∷ []) rest
row_of_one s P E rest h = record { plain = h.plain; fit = (h.fits, tt); spelled = h.spelled ∙ ap (λ l. l ++ rest) (sym (append-nil (words P.edition.width E))); closed = h.closed }

-- ── a row after another ──

pub terms_append : (w : ℕ) (Es Fs : List Term) → terms_words w (Es ++ Fs) ≡ terms_words w Es ++ terms_words w Fs
terms_append w [] Fs = refl
terms_append w (E ∷ Es) Fs = ap (λ l. words w E ++ l) (terms_append w Es Fs) ∙ sym (append_assoc (words w E) (terms_words w Es) (terms_words w Fs))
