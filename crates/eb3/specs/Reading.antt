-- Reading words from the first on: what was read and the words after it, or the number of a refusal; the first offending word decides
-- (document 01, "Operations": 4, 5 and 6 by the first offending word of the stream). Generic over what is read.
use Rattle.std.specs.Prelude.{Bool, true, false, List, [], ◌∷◌, ℕ, zero, suc, ◌+◌, ◌*◌, ltb, leb}
use Rattle.eb3.specs.Refusal

pub data Read (A : Type 0) : Type 0 where
  refused : ℕ → Read A
  taken : A → List ℕ → Read A

abbrev pub Reader : Type 0 → Type 0
Reader A = List ℕ → Read A

abbrev pub pick : {A : Type 0} → Bool → A → A → A
pick true x y = x
pick false x y = y

-- The same words, with another value.
unfoldable pub giving : {A B : Type 0} → (A → B) → Read A → Read B
giving f (refused k) = refused k
giving f (taken a t) = taken (f a) t

-- Reading goes on with the words after what was read; a refusal stays.
unfoldable pub then : {A B : Type 0} → Read A → (A → Reader B) → Read B
then (refused k) g = refused k
then (taken a t) g = g a t

-- One thing and, after it, another.
unfoldable pub both : {A B : Type 0} → Reader A → Reader B → Reader (A × B)
both f g t = then (f t) λ a u. giving (λ b. (a, b)) (g u)

-- One word below a limit, else refused k. A missing word is a stream cut short.
unfoldable pub number_of : ℕ → ℕ → Reader ℕ
number_of k limit [] = refused Refusal.form
number_of k limit (w ∷ t) = pick (ltb w limit) (taken w t) (refused k)

-- A word below a limit, by which the reading goes on.
unfoldable pub by_number : {B : Type 0} → ℕ → ℕ → (ℕ → Reader B) → Reader B
by_number k limit g t = then (number_of k limit t) g

-- A count or size from lo to hi.
unfoldable pub count_of : ℕ → ℕ → Reader ℕ
count_of lo hi [] = refused Refusal.form
count_of lo hi (w ∷ t) = pick (leb lo w) (pick (leb w hi) (taken w t) (refused Refusal.form)) (refused Refusal.form)

-- n of a kind in a row; a count and as many of a kind as it says; one for each entry of a list.
unfoldable pub repeat : {A : Type 0} → ℕ → Reader A → Reader (List A)
repeat zero f t = taken [] t
repeat (suc n) f t = giving (λ p. p.0 ∷ p.1) (both f (repeat n f) t)

unfoldable pub counted : {A : Type 0} → ℕ → ℕ → Reader A → Reader (List A)
counted lo hi f t = then (count_of lo hi t) λ n. repeat n f

unfoldable pub for_each : {A B : Type 0} → List B → (B → Reader A) → Reader (List A)
for_each [] f t = taken [] t
for_each (b ∷ bs) f t = giving (λ p. p.0 ∷ p.1) (both (f b) (for_each bs f) t)

-- f i, f (i + 1) and so on, n of them.
unfoldable pub series : {A : Type 0} → ℕ → ℕ → (ℕ → Reader A) → Reader (List A)
series zero i f t = taken [] t
series (suc n) i f t = giving (λ p. p.0 ∷ p.1) (both (f i) (series n (i + 1) f) t)

-- A number written in a given number of words, low word first; it is judged at its last word.
unfoldable pub number_in : ℕ → Reader ℕ
number_in zero t = refused Refusal.form
number_in (suc zero) [] = refused Refusal.form
number_in (suc zero) (w ∷ t) = taken w t
number_in (suc (suc n)) t = then (number_of Refusal.form 65536 t) λ w u. giving (λ m. w + 65536 * m) (number_in (suc n) u)
