-- Whether a buffer of bytes has room up to a word, as a Bool: what a writer tests before it puts words, in a buffer that is lent for at most 65,535 words
-- (document 01, "Unfolding, size and breadth").
use Rattle.std.specs.Prelude.{Bool, ◌&&◌, List, ℕ, ◌*◌, leb, length}

-- There is room up to word `end`, and no more words than an unfolding may have by far.
unfoldable pub room_to : ℕ → List ℕ → Bool
room_to end B = leb end 65535 && leb (2 * end) (length B)
