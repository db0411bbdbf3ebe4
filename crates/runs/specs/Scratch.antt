-- The lent bytes that successors are built in, afterwards: their words may be anything, and an odd last byte is kept (document 01, "Operations": the scratch
-- words are the only freedom; an odd last byte is ignored and kept).
use Rattle.std.specs.Prelude.{◌≡◌, List, ℕ, ◌*◌, length, drop}
use Rattle.eb3.specs.Bytes.{word_count}

-- How many bytes of a buffer are in words.
abbrev pub word_bytes : List ℕ → ℕ
word_bytes B = 2 * word_count B

-- Of the bytes B, which are B' afterwards, only words may have changed.
pub record WordsOnly (B B' : List ℕ) : Type 0 where
  pub same_length : length B' ≡ length B
  pub odd_kept : drop (word_bytes B) B' ≡ drop (word_bytes B) B
