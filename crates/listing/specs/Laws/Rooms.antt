-- Laws of the room that listing takes, by the term's form: it is at most twice the breadth.
-- Document 01, "Moves, in order".
use Rattle.std.specs.Prelude.{◌≡◌, Bool, ◌&&◌, ℕ, ◌+◌, ◌*◌, ◌≤◌, max, length}
use Rattle.std.proofs.Math.Path.{refl, ap}
use Rattle.std.proofs.Common.{◌∙◌}
use Rattle.std.proofs.Math.Bool.{true, false, cond}
use native.Mathlib.Omega.{arith}
use Rattle.std.proofs.Math.ListN.{length-map}
use Rattle.eb3.specs.Expressions.{Cond}
use Rattle.eb3.specs.Terms.{Term, Done, Internal, Perform, Sequence, Choice, Star, Parallel, Guard, Mask, done?}
use Rattle.eb3.specs.Moves.{moves}
use Rattle.eb3.specs.Sizes.{breadth, zero_mask, parallel_breadth}
use Rattle.eb3.proofs.Laws.Sizes.{moves_below_breadth}
use Rattle.listing.specs.Listing.{code_of, codes, room}
use Rattle.listing.specs.Rooms.{two_room, masked_room}

-- one of two, neither above n
pub either_below : (n : ℕ) (b : Bool) (x y : ℕ) → x ≤ n → y ≤ n → cond b x y ≤ n
either_below n true x y h k = h
either_below n false x y h k = k

module _ (g : Cond → Bool) where
  pub room_after_done : (E F : Term) → done? E ≡ true → room g (Sequence E F) ≡ room g F
  unfolding room
  room_after_done E F h = ap (λ b. cond b (room g F) (room g E)) h

  pub room_sequence : (E F : Term) → done? E ≡ false → room g (Sequence E F) ≡ room g E
  unfolding room
  room_sequence E F h = ap (λ b. cond b (room g F) (room g E)) h

  pub room_choice : (E F : Term) → room g (Choice E F) ≡ two_room g E F
  unfolding room
  room_choice E F = refl

  pub room_star : (E : Term) → room g (Star E) ≡ 1 + room g E
  unfolding room
  room_star E = refl

  module _ (Δ : Mask) (E F : Term) where
    pub room_both_done : (done? E && done? F) ≡ true → room g (Parallel Δ E F) ≡ 1
    unfolding room
    room_both_done h = ap (λ b. cond b 1 (cond (zero_mask Δ) (two_room g E F) (masked_room g E F (length (codes g (Parallel Δ E F)))))) h

    pub room_zero : (done? E && done? F) ≡ false → zero_mask Δ ≡ true → room g (Parallel Δ E F) ≡ two_room g E F
    unfolding room
    room_zero h z =
        ap (λ b. cond b 1 (cond (zero_mask Δ) (two_room g E F) (masked_room g E F (length (codes g (Parallel Δ E F)))))) h
        ∙ ap (λ b. cond b (two_room g E F) (masked_room g E F (length (codes g (Parallel Δ E F))))) z

    pub room_masked : (done? E && done? F) ≡ false → zero_mask Δ ≡ false → room g (Parallel Δ E F) ≡ masked_room g E F (length (codes g (Parallel Δ E F)))
    unfolding room
    room_masked h z =
        ap (λ b. cond b 1 (cond (zero_mask Δ) (two_room g E F) (masked_room g E F (length (codes g (Parallel Δ E F)))))) h
        ∙ ap (λ b. cond b (two_room g E F) (masked_room g E F (length (codes g (Parallel Δ E F))))) z

  pub room_guard : (C : Cond) (E : Term) → g C ≡ true → room g (Guard C E) ≡ room g E
  unfolding room
  room_guard C E h = ap (λ b. cond b (room g E) 0) h

  -- ── the bound ──

  pub codes_below_breadth : (E : Term) → length (codes g E) ≤ breadth E
  unfolding codes
  codes_below_breadth E = omega (arith, length-map (moves g E) code_of, moves_below_breadth g E)

  parallel_bound : (z d : Bool) (lE lF rE rF bE bF n : ℕ) → lE ≤ bE → lF ≤ bF → rE ≤ 2 * bE → rF ≤ 2 * bF → n ≤ parallel_breadth z bE bF
      → cond d 1 (cond z (max rE (lE + rF)) (max rE (lE + max rF (lF + n)))) ≤ 2 * parallel_breadth z bE bF
  unfolding parallel_breadth
  parallel_bound true true lE lF rE rF bE bF n a b c e f = omega arith
  parallel_bound false true lE lF rE rF bE bF n a b c e f = omega arith
  parallel_bound true false lE lF rE rF bE bF n a b c e f = omega arith
  parallel_bound false false lE lF rE rF bE bF n a b c e f = omega arith

  pub room_below_breadth : (E : Term) → room g E ≤ 2 * breadth E
  unfolding room breadth
  room_below_breadth Done = omega arith
  room_below_breadth Internal = omega arith
  room_below_breadth (Perform a) = omega arith
  room_below_breadth (Sequence E F) = either_below _ (done? E) (room g F) (room g E) (omega (arith, room_below_breadth F)) (omega (arith, room_below_breadth E))
  room_below_breadth (Choice E F) = omega (arith, room_below_breadth E, room_below_breadth F, codes_below_breadth E)
  room_below_breadth (Star E) = omega (arith, room_below_breadth E)
  room_below_breadth (Parallel Δ E F) =
      parallel_bound (zero_mask Δ) (done? E && done? F) (length (codes g E)) (length (codes g F)) (room g E) (room g F) (breadth E) (breadth F) (length (codes g (Parallel Δ E F)))
      (codes_below_breadth E) (codes_below_breadth F) (room_below_breadth E) (room_below_breadth F) (codes_below_breadth (Parallel Δ E F))
  room_below_breadth (Guard C E) = either_below _ (g C) (room g E) 0 (room_below_breadth E) (omega arith)
