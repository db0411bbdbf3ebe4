-- Words in byte buffers, little-endian (document 01, "Values and conditions": a word is 16 bits; "Operations": an odd last byte is ignored and
-- kept, and words past what is written keep their values).
use Rattle.std.specs.Prelude.{List, [], ◌∷◌, ◌++◌, ℕ, ◌+◌, ◌*◌, ◌/◌, ◌%◌, length, drop}

-- The words of a buffer; an odd last byte is ignored.
unfoldable pub words_in : List ℕ → List ℕ
words_in [] = []
words_in (a ∷ []) = []
words_in (a ∷ b ∷ s) = (a + 256 * b) ∷ words_in s

unfoldable pub bytes_of : List ℕ → List ℕ
bytes_of [] = []
bytes_of (w ∷ ws) = w % 256 ∷ w / 256 % 256 ∷ bytes_of ws

-- Numbers of 32 bits, two words each, low word first; a last word without a second one is none.
unfoldable pub doubles_in : List ℕ → List ℕ
doubles_in [] = []
doubles_in (a ∷ []) = []
doubles_in (a ∷ b ∷ ws) = (a + 65536 * b) ∷ doubles_in ws

unfoldable pub double_words : List ℕ → List ℕ
double_words [] = []
double_words (n ∷ ns) = n % 65536 ∷ n / 65536 ∷ double_words ns

-- How many words a buffer has.
abbrev pub word_count : List ℕ → ℕ
word_count s = length s / 2

-- Words written at the beginning of a buffer; the bytes after them are kept.
unfoldable pub written : List ℕ → List ℕ → List ℕ
written ws s = bytes_of ws ++ drop (2 * length ws) s
