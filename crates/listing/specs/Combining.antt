-- The numbers of a parallel's moves, made of those of its sides (document 01, "Moves, in order"): left's outside the mask, right's likewise, then
-- pairs of equal actions in the mask, ordered by left, then right. `p` says which numbers are in the mask.
use Rattle.std.specs.Prelude.{◌≡◌, Bool, cond, List, [], ◌∷◌, ◌++◌, ℕ, ◌+◌, ◌≤◌, ◌<◌, eqb, length, take, drop, Option, MatchOption}

unfoldable pub outside : (ℕ → Bool) → List ℕ → List ℕ
outside p [] = []
outside p (x ∷ xs) = cond (p x) (outside p xs) (x ∷ outside p xs)

-- a, once for each that equals it
unfoldable pub equal_to : ℕ → List ℕ → List ℕ
equal_to a [] = []
equal_to a (y ∷ ys) = cond (eqb y a) (a ∷ equal_to a ys) (equal_to a ys)

unfoldable pub pairs : (ℕ → Bool) → List ℕ → List ℕ → List ℕ
pairs p [] ys = []
pairs p (x ∷ xs) ys = cond (p x) (equal_to x ys) [] ++ pairs p xs ys

unfoldable pub combined : (ℕ → Bool) → List ℕ → List ℕ → List ℕ
combined p xs ys = outside p xs ++ (outside p ys ++ pairs p xs ys)

-- o was written into x from e on, up to r, which made y of it.
pub record Written (o : List ℕ) (e : ℕ) (x y : List ℕ) (r : ℕ) : Type 0 where
  pub end : r ≡ e + length o
  pub inside : r ≤ length x
  pub text : y ≡ take e x ++ (o ++ drop r x)

-- What writing o from e on answers: where it ends, or None where there was no room.
pub record Wrote (o : List ℕ) (e : ℕ) (x y : List ℕ) (r : Option ℕ) : Type 0 where
  pub same_length : length y ≡ length x
  pub written : MatchOption r (length x < e + length o) (Written o e x y)

-- The r numbers of o are at the front of y, and after b numbers x has room for r more.
pub record Made (o : List ℕ) (b : ℕ) (x y : List ℕ) (r : ℕ) : Type 0 where
  pub fitted : b + r ≤ length x
  pub counted : r ≡ length o
  pub front : take r y ≡ o

-- What combining answers: how many numbers are now at the front, or None where there was no room after the b that both sides take.
pub record Combined (o : List ℕ) (b : ℕ) (x y : List ℕ) (r : Option ℕ) : Type 0 where
  pub same_length : length y ≡ length x
  pub made : MatchOption r (length x < b + length o) (Made o b x y)
