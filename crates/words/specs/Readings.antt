-- What the answer of a check says of the reading: what was read and the words after it (`Taken`), or the refusal (`RefusedAs`).
-- Document 01, "Operations": 4, 5 and 6 by the first offending word of the stream.
use Rattle.std.specs.Prelude.{ℕ, ◌≤◌, ◌≡◌, List, length}
use Rattle.eb3.specs.Reading.{Read, refused, taken}
use Rattle.words.specs.Checking.{last_of}
use Rattle.refusals.specs.declared.Refusal.{Refusal}
use Rattle.refusals.specs.Numbers.{refusal}

-- What was read: n words are left, and they are the last of the words given.
pub record Taken {A : Type 0} (t : List ℕ) (n : ℕ) (r : Read A) : Type 0 where
  pub value : A
  pub rest : List ℕ
  pub read : r ≡ taken value rest
  pub left : n ≡ length rest
  pub words : last_of n t ≡ rest
  pub short : n ≤ length t

-- Refused, by the number of refusal k.
pub record RefusedAs {A : Type 0} (k : Refusal) (r : Read A) : Type 0 where
  pub code : ℕ
  pub read : r ≡ refused code
  pub named : k ≡ refusal code
