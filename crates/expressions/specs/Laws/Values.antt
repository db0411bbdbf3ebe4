-- Words that are read as values and written again, and words read with any default (document 01, "Values and conditions"; "Memory and the history machine":
-- undefined is stored as 65,535).
use Rattle.std.specs.Prelude.{◌≡◌, cond, List, ℕ, ◌≤◌, ◌<◌, leb, length, get_or}
use Rattle.std.proofs.Common.{arith, le-leb}
use Rattle.std.proofs.Math.Decide.{dec_lt}
use Rattle.std.proofs.lemmas.Bool.{lt-leb}
use Rattle.std.proofs.lemmas.List.{get_or_default}
use Rattle.eb3.specs.Values.{undefined, number, bounded, encode, decode}
use Rattle.expressions.specs.Stores.{largest_number}

-- A word that is read as a value is that value's word.
pub word_of_value : (w : ℕ) → w < 65536 → encode 65535 (decode largest_number w) ≡ w
unfolding encode decode bounded
word_of_value w h = go (dec_lt w 65535)
  where
    go : Dec (w < 65535) → encode 65535 (cond (leb w largest_number) (number w) undefined) ≡ w
    go (yes l) = let k : w ≤ largest_number = omega arith in rw (le-leb w largest_number k)
    go (no n) = let k : largest_number < w = omega arith in rw (lt-leb w largest_number k) (omega arith)

-- A word that is there is read whatever is read where none is.
pub any_default : (l : List ℕ) (i d e : ℕ) → i < length l → get_or l i d ≡ get_or l i e
any_default l i d e h = get_or_default l i d e h
