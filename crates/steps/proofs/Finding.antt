-- The first of a list's numbers that is a given one, found step by step, and the first move with an action, found in a list of numbers.
use Rattle.std.specs.Prelude.{◌≡◌, refl, Bool, true, false, cond, not, List, [], ◌∷◌, ℕ, zero, suc, ◌+◌, ◌<◌, eqb, nat_eq, nat_lt, length, Option, None, Some, unwrap_or}
use Rattle.std.specs.List.{position, position_or_len}
use Rattle.std.proofs.Common.{sym, ap, ◌∙◌}
use Rattle.std.proofs.Math.Decide.{dec_lt}
use Rattle.std.proofs.lemmas.Option.{none-some, same_Some}
use borrow.Author.Tests.{lt-ltb, le-ltb}
use Rattle.std.proofs.Math.Option.{Option as Maybe, none, some}
use native.Mathlib.Omega.{arith}
use Rattle.eb3.specs.Scopes.{Scope}
use Rattle.eb3.specs.Terms.{Term, Action}
use Rattle.eb3.specs.Moves.{moves, later, first_with}
use Rattle.actions.specs.Codes.{action_code, Small}
use Rattle.listing.specs.Listing.{holding, codes}
use Rattle.steps.specs.Counting.{Whole, found_at, first_number, MadeOfAll}
use Rattle.steps.specs.Laws.Counting.{first_by_code}

next_below : (k n : ℕ) → nat_lt (1 + k) (suc n) ≡ nat_lt k n
next_below k n = go (dec_lt k n)
  where
    go : Dec (k < n) → nat_lt (1 + k) (suc n) ≡ nat_lt k n
    go (yes l) = lt-ltb (1 + k) (suc n) (omega arith) ∙ sym (lt-ltb k n l)
    go (no l) = le-ltb (1 + k) (suc n) (omega arith) ∙ sym (le-ltb k n (omega arith))

-- found among the items after one that does not pass, if at all
found_later : (k : ℕ) (o : Maybe ℕ) (b : Bool) → cond b (Some k) None ≡ found_at o → cond b (Some (1 + k)) None ≡ found_at (later o)
unfolding found_at
found_later k none true h = absurd (none-some k (sym h))
found_later k (some j) true h = ap Some (omega (arith, same_Some k j h))
found_later k none false h = refl
found_later k (some j) false h = absurd (none-some j h)

-- the first k of n items do not pass; then the item before them is tested, and b says whether it passes
next_position : (b : Bool) (k n : ℕ) (o : Maybe ℕ) → cond (nat_lt k n) (Some k) None ≡ found_at o
    → cond (nat_lt (cond (not b) (1 + k) 0) (suc n)) (Some (cond (not b) (1 + k) 0)) None ≡ found_at (cond b (some zero) (later o))
unfolding found_at
next_position true k n o h = ap (λ b. cond b (Some 0) None) (lt-ltb 0 (suc n) (omega arith))
next_position false k n o h = ap (λ b. cond b (Some (1 + k)) None) (next_below k n) ∙ found_later k o (nat_lt k n) h

-- The place of a number is that of the first item for which a test says so.
first_position : (a : ℕ) (l : List ℕ) → position (λ x. nat_eq x a) l ≡ found_at (first_number a l)
unfolding found_at first_number
first_position a [] = refl
first_position a (x ∷ xs) = next_position (eqb x a) (position_or_len (λ y. nat_eq y a) xs) (length xs) (first_number a xs) (first_position a xs)

-- ── the first move ──

pub first_found : (s M : List ℕ) (code : ℕ) (makes : List ℕ → Option ℕ → Type 0) (r : Option (Option ℕ)) → ((l : List ℕ) (q : Option ℕ) → makes l q → q ≡ position (λ x. nat_eq x code) l)
    → MadeOfAll s M makes r → (P : Scope) (E : Term) → Whole s P E → (ρ : Action) → Small ρ → code ≡ action_code ρ → unwrap_or r None ≡ found_at (first_with ρ (moves (holding M) E))
first_found s M code makes (Some q) f h P E k ρ small is =
    f _ q (h.made P E k) ∙ first_position code (codes (holding M) E) ∙ (λ i. found_at (first_number (is i) (codes (holding M) E)))
    ∙ ap found_at (sym (first_by_code (holding M) P E k.there.fits ρ small))
first_found s M code makes None f h P E k ρ small is = absurd (h.made P E k)
