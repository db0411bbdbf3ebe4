-- Words written at the front of a lent buffer, little-endian (document 01, "Operations": words past what is written keep their values, and so does an odd
-- last byte).
use Rattle.std.specs.Prelude.{◌≡◌, Bool, true, false, List, ℕ, ◌*◌, leb, length}
use Rattle.eb3.specs.Bytes.{written}

-- The words o were written into x, which is y now; or there was no room, and nothing was.
pub record Wrote (o x y : List ℕ) (ok : Bool) : Type 0 where
  pub fits : ok ≡ leb (2 * length o) (length x)
  pub same_length : length y ≡ length x
  pub right : ok ≡ true → y ≡ written o x
  pub kept : ok ≡ false → y ≡ x
