-- What a check answers of a reading: not what was read, but how many words are left after it.
-- Document 01, "Operations": 4, 5 and 6 by the first offending word of the stream.
use Rattle.std.specs.Prelude.{List, [], ◌∷◌, ℕ, ◌-◌, length, drop, ltb, Result, Ok, Err}
use Rattle.eb3.specs.Reading.{Read, refused, taken, pick}
use Rattle.refusals.specs.declared.Refusal.{Refusal}
use Rattle.refusals.specs.Numbers.{refusal}

abbrev pub Checked : Type 0
Checked = Result ℕ Refusal

unfoldable pub checked : {A : Type 0} → Read A → Checked
checked (refused k) = Err (refusal k)
checked (taken a t) = Ok (length t)

-- The same with the number itself of a refusal.
unfoldable pub numbered : {A : Type 0} → Read A → Result ℕ ℕ
numbered (refused k) = Err k
numbered (taken a t) = Ok (length t)

-- A number below a limit at the front, else one of two errors: that no word is left, or that the number is not below.
unfoldable pub number_or : {E : Type 0} → E → E → ℕ → List ℕ → Result ℕ E
number_or missing wrong limit [] = Err missing
number_or missing wrong limit (w ∷ t) = pick (ltb w limit) (Ok (length t)) (Err wrong)

-- The last n words.
unfoldable pub last_of : ℕ → List ℕ → List ℕ
last_of n s = drop (length s - n) s
