-- The remainder by 255, found without a division (document 02, K3).
use mathlib.Core.Path.{◌≡◌}
use Prim.Native.Nat.{ℕ, ◌+◌, ◌-◌, ◌*◌, ◌/◌, ◌%◌, ◌≤◌, ◌<◌}
use native.Mathlib.Omega.{arith}

-- A quotient is known by its bounds, however it was found.
pub less_quotient : (z a : ℕ) → 255 * a ≤ z → z < 255 * a + 255 → z - 255 * a ≡ z % 255
less_quotient z a h k = omega arith

-- What two folds leave of a number of 64 bits: the first at most 2 * 2^32 - 2, the second less than 2^32.
pub folded_twice : {x y z : ℕ} → x < 18446744073709551616 → y ≡ x / 4294967296 + x % 4294967296 → z ≡ y / 4294967296 + y % 4294967296 → z < 4294967296
folded_twice {x} {y} {z} l e f = second (first l e) f
  where
    first : {x y : ℕ} → x < 18446744073709551616 → y ≡ x / 4294967296 + x % 4294967296 → y ≤ 8589934590
    first l e = omega arith

    second : {y z : ℕ} → y ≤ 8589934590 → z ≡ y / 4294967296 + y % 4294967296 → z < 4294967296
    second l f = omega arith
