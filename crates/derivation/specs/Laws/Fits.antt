-- The left operand's size, which a path holds, is computed from where the right operand begins; and a running term of edition 1 has small actions
-- (document 01, "Moves, in order").
use Rattle.std.specs.Prelude.{◌≡◌, List, ℕ, ◌-◌, length}
use Rattle.std.proofs.Common.{ap, ◌∙◌, arith, length-append}
use Rattle.eb3.specs.Scopes.{Scope}
use Rattle.eb3.specs.Terms.{Term, Done, Internal, Perform, Sequence, Choice, Star, Parallel, Guard}
use Rattle.eb3.specs.Sizes.{size}
use Rattle.eb3.specs.Spelling.{words}
use Rattle.listing.specs.Laws.Fits.{fits_length}
use Rattle.listing.specs.Listing.{Fits, TermAt}
use Rattle.listing.specs.Positions.{TwoAt}
use Rattle.paths.proofs.SmallLaws.{SmallActions}

pub size_before : {t : List ℕ} {P : Scope} {E : Term} {u : List ℕ} → TermAt t P E u → length t - length u ≡ size P.edition.width E
size_before {t} {P} {E} {u} h = omega (arith, ap length h.spelled, length-append (words P.edition.width E) u, fits_length P E h.fits)

-- u is where the second of two terms was found
pub before_second : (t u : List ℕ) {P : Scope} {E F : Term} {rest : List ℕ} → TwoAt t P E F rest → TermAt u P F rest → length t - length u ≡ size P.edition.width E
before_second t u s h = ap (λ n. length t - n) (ap length h.spelled) ∙ size_before s.first

pub small_actions : (P : Scope) (E : Term) → Fits P E → SmallActions E
small_actions P Done h = tt
small_actions P Internal h = tt
small_actions P (Perform a) h = h
small_actions P (Sequence E F) h = (small_actions P E h.0, small_actions P F h.1)
small_actions P (Choice E F) h = (small_actions P E h.0, small_actions P F h.1)
small_actions P (Star E) h = small_actions P E h
small_actions P (Parallel Δ E F) h = (small_actions P E h.1, small_actions P F h.2)
small_actions P (Guard C E) h = small_actions P E h.1
