-- A running term has as many words as its size (document 01, "Unfolding, size and breadth": size is the word count).
use Rattle.std.specs.Prelude.{◌≡◌, refl, ◌++◌, length}
use Rattle.std.proofs.Common.{arith, length-append}
use Rattle.eb3.specs.Scopes.{Scope}
use Rattle.eb3.specs.Terms.{Term, Done, Internal, Perform, Sequence, Choice, Star, Parallel, Guard}
use Rattle.eb3.specs.Sizes.{size}
use Rattle.eb3.specs.Spelling.{cond_words, words}
use Rattle.eb3.proofs.Laws.Spelling.{cond_length, arguments_length}
use Rattle.listing.specs.Listing.{Fits}

pub fits_length : (P : Scope) (E : Term) → Fits P E → length (words P.edition.width E) ≡ size P.edition.width E
unfolding words size
fits_length P Done h = refl
fits_length P Internal h = refl
fits_length P (Perform a) h = omega (arith, arguments_length P.edition.width a.arguments)
fits_length P (Sequence E F) h = omega (arith, length-append (words P.edition.width E) (words P.edition.width F), fits_length P E h.0, fits_length P F h.1)
fits_length P (Choice E F) h = omega (arith, length-append (words P.edition.width E) (words P.edition.width F), fits_length P E h.0, fits_length P F h.1)
fits_length P (Star E) h = omega (arith, fits_length P E h)
fits_length P (Parallel Δ E F) h =
    omega (arith, h.0, length-append Δ (words P.edition.width E ++ words P.edition.width F), length-append (words P.edition.width E) (words P.edition.width F), fits_length P E h.1, fits_length P F h.2)
fits_length P (Guard C E) h = omega (arith, length-append (cond_words P.edition.width C) (words P.edition.width E), cond_length P.edition.width C, fits_length P E h.1)
