-- A shared term has at most as many words as the term that it means (document 01, "Unfolding, size and breadth").
use Rattle.std.specs.Prelude.{ℕ, ◌≤◌, length}
use Rattle.std.proofs.Common.{arith, length-append}
use Rattle.eb3.specs.Terms.{Term, Done, Internal, Perform, Sequence, Choice, Star, Parallel, Guard}
use Rattle.eb3.specs.Sizes.{size}
use Rattle.sharing.specs.Shared.{Shared, Ended, Part, Then, Beside, term_of, shared_words}

-- Every term has a word.
pub size_some : (width : ℕ) (E : Term) → 1 ≤ size width E
unfolding size
size_some width Done = omega arith
size_some width Internal = omega arith
size_some width (Perform a) = omega arith
size_some width (Sequence E F) = omega arith
size_some width (Choice E F) = omega arith
size_some width (Star E) = omega arith
size_some width (Parallel Δ E F) = omega arith
size_some width (Guard C E) = omega arith

pub shared_short : (width : ℕ) (S : Shared) → length (shared_words S) ≤ size width (term_of S)
unfolding shared_words term_of size
shared_short width Ended = omega arith
shared_short width (Part l E) = size_some width E
shared_short width (Then S l F) = omega (arith, shared_short width S, size_some width F)
shared_short width (Beside S T) = omega (arith, shared_short width S, shared_short width T, length-append (shared_words S) (shared_words T))

pub shared_some : (S : Shared) → 1 ≤ length (shared_words S)
unfolding shared_words
shared_some Ended = omega arith
shared_some (Part l E) = omega arith
shared_some (Then S l F) = omega arith
shared_some (Beside S T) = omega arith
