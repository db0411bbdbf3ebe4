-- Laws of the room that a buffer has (document 01, "Unfolding, size and breadth").
use Rattle.std.specs.Prelude.{◌≡◌, refl, Bool, true, false, ◌&&◌, List, ℕ, ◌*◌, ◌/◌, ◌≤◌, ◌<◌, leb, length}
use Rattle.std.proofs.Common.{sym, ap, ◌∙◌, arith, le-leb, leb-true, leb-false}
use Rattle.std.proofs.lemmas.Bool.{lt-leb}
use Rattle.unfold.specs.Rooms.{room_to}

pub room_there : (end : ℕ) (x : List ℕ) → room_to end x ≡ true → (end ≤ 65535) × (2 * end ≤ length x)
unfolding room_to
room_there end x e = (leb-true end 65535 (both (leb end 65535) (leb (2 * end) (length x)) e).0, leb-true (2 * end) (length x) (both (leb end 65535) (leb (2 * end) (length x)) e).1)
  where
    both : (a b : Bool) → (a && b) ≡ true → (a ≡ true) × (b ≡ true)
    both true b e = (refl, e)
    both false b e = absurd (let z : ◌≡◌ {A = ℕ} 0 1 = cc in let w : ⊥ = omega arith in w)

room_is : (end : ℕ) (x : List ℕ) → end ≤ 65535 → 2 * end ≤ length x → room_to end x ≡ true
unfolding room_to
room_is end x few room = ap (λ b. b && leb (2 * end) (length x)) (le-leb end 65535 few) ∙ le-leb (2 * end) (length x) room

pub room_lacking : (end : ℕ) (x : List ℕ) → room_to end x ≡ false → end ≤ 65535 → 2 * end ≤ length x → ⊥
room_lacking end x e few room = let t : room_to end x ≡ true = room_is end x few room in let z : ◌≡◌ {A = ℕ} 0 1 = cc in let w : ⊥ = omega arith in w

-- As it is tested.
pub room_over : (end : ℕ) (x : List ℕ) → 65535 < end → false ≡ room_to end x
unfolding room_to
room_over end x h = sym (ap (λ b. b && leb (2 * end) (length x)) (lt-leb end 65535 h))

pub room_halved : (end : ℕ) (x : List ℕ) → end ≤ 65535 → leb end (length x / 2) ≡ room_to end x
unfolding room_to
room_halved end x h = by (leb end (length x / 2)) refl ∙ sym (ap (λ b. b && leb (2 * end) (length x)) (le-leb end 65535 h))
  where
    by : (b : Bool) → leb end (length x / 2) ≡ b → leb end (length x / 2) ≡ leb (2 * end) (length x)
    by true e = e ∙ sym (le-leb (2 * end) (length x) (let l : end ≤ length x / 2 = leb-true end (length x / 2) e in omega arith))
    by false e = e ∙ sym (lt-leb (2 * end) (length x) (let l : length x / 2 < end = leb-false end (length x / 2) e in omega arith))
