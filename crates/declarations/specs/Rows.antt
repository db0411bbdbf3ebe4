-- A count and as many words, each read by itself (`One`), are a row at the front of the words: what was read is that row (`RowAt`), and a copy of it
-- into the tables enters it.
-- Document 01, "Blocks and the rule stream", items 2 to 5; refusals 4 and 5.
use Rattle.std.specs.Prelude.{ℕ, ◌+◌, ◌≤◌, ◌≡◌, List, [], ◌∷◌, ◌⊎◌, length, get_or}
use Rattle.std.proofs.Math.Seq.{paste}
use Rattle.eb3.specs.Reading.{Read, refused, taken, Reader}
use Rattle.words.specs.Checking.{last_of}
use Rattle.tables.specs.Tables.{row}
use Rattle.declarations.specs.Entering.{put_row}

-- A reader of one word, which gives the word back, or refuses.
abbrev pub One : Reader ℕ → Type 0
One f = ((k : ℕ) × (f [] ≡ refused k)) × ((w : ℕ) (s : List ℕ) → (f (w ∷ s) ≡ taken w s) ⊎ ((k : ℕ) × (f (w ∷ s) ≡ refused k)))

-- Of c, a reading of words t that leaves m of them.
pub record RowAt (hi : ℕ) (t : List ℕ) (c : Read (List ℕ)) (m : ℕ) : Type 0 where
  pub is : c ≡ taken (row t 0) (last_of m t)
  pub small : get_or t 0 0 ≤ hi
  pub room : get_or t 0 0 + 1 ≤ length t
  pub few : length (row t 0) ≡ get_or t 0 0
  pub place : (at : ℕ) (T : List ℕ) → paste T at t (get_or t 0 0 + 1) ≡ put_row at (row t 0) T
