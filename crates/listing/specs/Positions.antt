-- Where the operands of a term are, by the code at its front.
-- Document 01, "Moves, in order".
use Rattle.std.specs.Prelude.{◌≡◌, ℕ, take, drop}
use mathlib.Core.List.{List, ◌++◌}
use Rattle.eb3.specs.Expressions.{Cond}
use Rattle.eb3.specs.Scopes.{Scope}
use Rattle.eb3.specs.Terms.{Term, Done, Internal, Perform, Sequence, Choice, Star, Parallel, Guard}
use Rattle.eb3.specs.Spelling.{words}
use Rattle.expressions.specs.Answering.{CondAt}
use Rattle.listing.specs.Listing.{TermAt}

unfoldable pub code_in_front : Term → ℕ
code_in_front Done = 30
code_in_front Internal = 20
code_in_front (Perform a) = 21
code_in_front (Sequence E F) = 22
code_in_front (Choice E F) = 23
code_in_front (Star E) = 24
code_in_front (Parallel Δ E F) = 25
code_in_front (Guard C E) = 26

-- t begins with two terms.
pub record TwoAt (t : List ℕ) (P : Scope) (E F : Term) (rest : List ℕ) : Type 0 where
  pub first : TermAt t P E (words P.edition.width F ++ rest)
  pub second : TermAt (words P.edition.width F ++ rest) P F rest

-- d begins with a mask and two terms.
pub record MaskedAt (d : List ℕ) (P : Scope) (Δ : List ℕ) (E F : Term) (rest : List ℕ) : Type 0 where
  pub mask : take 4 d ≡ Δ
  pub sides : TwoAt (drop 4 d) P E F rest

-- t begins with a condition and a term.
pub record GuardedAt (t : List ℕ) (P : Scope) (C : Cond) (E : Term) (rest : List ℕ) : Type 0 where
  pub condition : CondAt t P C (words P.edition.width E ++ rest)
  pub guarded : TermAt (words P.edition.width E ++ rest) P E rest
