-- What is left of words is an end of them (`Tail`, `Fine`, `Ends`), and readers that agree on words no longer than s (`Same`).
-- Document 01, "Operations": 4, 5 and 6 by the first offending word of the stream.
use Rattle.std.specs.Prelude.{ℕ, ◌≤◌, ◌≡◌, List, length, drop}
use Rattle.eb3.specs.Reading.{Read, refused, taken, Reader}

abbrev pub Tail : List ℕ → List ℕ → Type 0
Tail t s = (k : ℕ) × (t ≡ drop k s)

abbrev pub Fine : {A : Type 0} → List ℕ → Read A → Type 0
Fine s (refused k) = Unit {0}
Fine s (taken a t) = Tail t s

abbrev pub Ends : {A : Type 0} → Reader A → Type 0
Ends f = (s : List ℕ) → Fine s (f s)

abbrev pub Same : {A : Type 0} → List ℕ → Reader A → Reader A → Type 0
Same s f g = (r : List ℕ) → length r ≤ length s → f r ≡ g r
