-- A term none of whose parallels has a label in its mask has at most as many moves as words, and listing them takes room for at most as many numbers: no
-- move of it is made by two sides together (document 01, "Moves, in order"; "Unfolding, size and breadth").
use Rattle.std.specs.Prelude.{◌≡◌, Bool, true, ◌&&◌, cond, ℕ, ◌+◌, ◌≤◌, max, length}
use Rattle.std.proofs.Common.{sym, subst}
use native.Mathlib.Omega.{arith}
use Rattle.std.proofs.Math.ListN.{length-map}
use Rattle.eb3.specs.Expressions.{Cond}
use Rattle.eb3.specs.Terms.{Term, Done, Internal, Perform, Sequence, Choice, Star, Parallel, Guard, done?}
use Rattle.eb3.specs.Moves.{moves}
use Rattle.eb3.specs.Sizes.{size, breadth, zero_mask, parallel_breadth}
use Rattle.eb3.proofs.Laws.Sizes.{moves_below_breadth}
use Rattle.listing.specs.Listing.{codes, code_of, room}
use Rattle.listing.specs.Laws.Rooms.{either_below}
use Rattle.sharing.specs.Shared.{Unmasked}

-- ── breadth ──

sides_below : (z : Bool) (l r m n : ℕ) → z ≡ true → l ≤ m → r ≤ n → parallel_breadth z l r ≤ 5 + m + n
unfolding parallel_breadth
sides_below z l r m n e h k = subst (λ b. parallel_breadth b l r ≤ 5 + m + n) (sym e) (omega arith)

pub unmasked_breadth : (width : ℕ) (E : Term) → Unmasked E → breadth E ≤ size width E
unfolding breadth size
unmasked_breadth width Done u = omega arith
unmasked_breadth width Internal u = omega arith
unmasked_breadth width (Perform a) u = omega arith
unmasked_breadth width (Sequence E F) u = omega (arith, unmasked_breadth width E u.0, unmasked_breadth width F u.1)
unmasked_breadth width (Choice E F) u = omega (arith, unmasked_breadth width E u.0, unmasked_breadth width F u.1)
unmasked_breadth width (Star E) u = omega (arith, unmasked_breadth width E u)
unmasked_breadth width (Parallel Δ E F) u = sides_below (zero_mask Δ) (breadth E) (breadth F) (size width E) (size width F) u.0 (unmasked_breadth width E u.1) (unmasked_breadth width F u.2)
unmasked_breadth width (Guard C E) u = omega (arith, unmasked_breadth width E u)

pub unmasked_count : (width : ℕ) (g : Cond → Bool) (E : Term) → Unmasked E → length (moves g E) ≤ size width E
unmasked_count width g E u = omega (arith, moves_below_breadth g E, unmasked_breadth width E u)

-- ── room ──

module _ (width : ℕ) (g : Cond → Bool) where
  codes_below : (E : Term) → Unmasked E → length (codes g E) ≤ size width E
  unfolding codes
  codes_below E u = omega (arith, length-map (moves g E) code_of, unmasked_count width g E u)

  -- without a mask one side's list comes after the other's
  beside_below : (d z : Bool) (l r c m n q : ℕ) → z ≡ true → l ≤ m → r ≤ n → c ≤ m → cond d 1 (cond z (max l (c + r)) q) ≤ 5 + m + n
  beside_below d z l r c m n q e h k b =
      subst (λ x. cond d 1 (cond x (max l (c + r)) q) ≤ 5 + m + n) (sym e) (either_below (5 + m + n) d 1 (max l (c + r)) (omega arith) (omega arith))

  pub unmasked_room : (E : Term) → Unmasked E → room g E ≤ size width E
  unfolding room size
  unmasked_room Done u = omega arith
  unmasked_room Internal u = omega arith
  unmasked_room (Perform a) u = omega arith
  unmasked_room (Sequence E F) u = either_below _ (done? E) (room g F) (room g E) (omega (arith, unmasked_room F u.1)) (omega (arith, unmasked_room E u.0))
  unmasked_room (Choice E F) u = omega (arith, unmasked_room E u.0, unmasked_room F u.1, codes_below E u.0)
  unmasked_room (Star E) u = omega (arith, unmasked_room E u)
  unmasked_room (Parallel Δ E F) u =
      beside_below (done? E && done? F) (zero_mask Δ) (room g E) (room g F) (length (codes g E)) (size width E) (size width F) _ u.0 (unmasked_room E u.1) (unmasked_room F u.2)
      (codes_below E u.1)
  unmasked_room (Guard C E) u = either_below _ (g C) (room g E) 0 (omega (arith, unmasked_room E u)) (omega arith)
