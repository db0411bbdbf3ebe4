-- Blocks, their numbers and sums, and the stream that their contents make (document 01, "Blocks and the rule stream"; refusals 1 to 3).
use Rattle.std.specs.Prelude.{Bool, true, ◌&&◌, List, [], ◌∷◌, ◌++◌, ℕ, zero, suc, ◌+◌, ◌*◌, ◌/◌, ◌%◌, eqb, leb, length, take, drop, get_or}
use Rattle.eb3.specs.Limits
use Rattle.eb3.specs.Refusal
use Rattle.eb3.specs.Editions.{Edition, edition_of}
use Rattle.eb3.specs.Reading.{pick}
use Rattle.eb3.specs.Bytes.{words_in}
use Rattle.eb3.specs.Answers.{Answer, refused, answered, or_refused, and_then}

-- Blocks of 512 bytes, of which 4 to 511 are content: 254 words.
abbrev pub block_bytes : ℕ
block_bytes = 512

abbrev pub content_bytes : ℕ
content_bytes = 508

abbrev pub content_words : ℕ
content_words = 254

-- Bytes 0, 1, 4 to 511 are summed.
abbrev pub content : List ℕ → List ℕ
content block = drop 4 block

abbrev pub summed_bytes : List ℕ → List ℕ
summed_bytes block = take 2 block ++ content block

-- A = (A + byte) mod 255, then B = (B + A) mod 255.
pub record Sums : Type 0 where
  pub a : ℕ
  pub b : ℕ

abbrev pub add_byte : Sums → ℕ → Sums
add_byte s byte = record { a = (s.a + byte) % 255; b = (s.b + (s.a + byte) % 255) % 255 }

unfoldable pub sums_from : Sums → List ℕ → Sums
sums_from s [] = s
sums_from s (byte ∷ bytes) = sums_from (add_byte s byte) bytes

-- The same sums without remainders.
unfoldable pub plain_sums : Sums → List ℕ → Sums
plain_sums s [] = s
plain_sums s (byte ∷ bytes) = plain_sums (record { a = s.a + byte; b = s.b + (s.a + byte) }) bytes

abbrev pub sums : List ℕ → Sums
sums block = sums_from (record { a = 0; b = 0 }) (summed_bytes block)

-- Block i has its number and its sums.
unfoldable pub block_right : ℕ → List ℕ → Bool
block_right i block = eqb (get_or block 0 0 + 256 * get_or block 1 0) i && (eqb (get_or block 2 0) (sums block).a && eqb (get_or block 3 0) (sums block).b)

-- n blocks from number i on.
unfoldable pub blocks_right : ℕ → ℕ → List ℕ → Bool
blocks_right i zero s = true
blocks_right i (suc n) s = block_right i (take block_bytes s) && blocks_right (suc i) n (drop block_bytes s)

-- Their contents, joined.
unfoldable pub contents : ℕ → List ℕ → List ℕ
contents zero s = []
contents (suc n) s = content (take block_bytes s) ++ contents n (drop block_bytes s)

abbrev pub block_count : List ℕ → ℕ
block_count s = length s / block_bytes

abbrev pub stream : List ℕ → List ℕ
stream s = words_in (contents (block_count s) s)

-- The three tests, in order.
abbrev pub whole_blocks : List ℕ → Bool
whole_blocks s = eqb (length s % block_bytes) 0 && (leb 1 (block_count s) && leb (block_count s) Limits.blocks)

-- The edition that word 0 says, where it is defined and word 1 is the block count.
unfoldable pub edition_in : List ℕ → Answer Edition
edition_in s = pick (eqb (get_or (stream s) 1 0) (block_count s)) (or_refused Refusal.edition (edition_of (get_or (stream s) 0 0))) (refused Refusal.edition)

-- An opened file: its edition, and the stream after its first two words.
pub record Opened : Type 0 where
  pub edition : Edition
  pub words : List ℕ

-- The file opened, or a refusal.
unfoldable pub open_blocks : List ℕ → Answer Opened
open_blocks s =
    pick (whole_blocks s)
    (pick (blocks_right 0 (block_count s) s)
    (and_then (edition_in s) λ L. answered (record { edition = L; words = drop 2 (stream s) }))
    (refused Refusal.block))
    (refused Refusal.length)
