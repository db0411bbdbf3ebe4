-- Where the words lie in the bytes (document 01, "Values and conditions": a word is 16 bits, little-endian; "Blocks and the rule stream": bytes 4 to 511 of
-- a block are content, and the contents, joined, are the stream). Proved in Laws/StreamWords.
use Rattle.std.specs.Prelude.{◌≡◌, List, ℕ, ◌+◌, ◌*◌, ◌/◌, ◌%◌, ◌<◌, length, get_or}
use Rattle.eb3.specs.Bytes.{words_in}
use Rattle.eb3.specs.Blocks.{stream}

-- Two bytes from byte i on, low byte first.
abbrev pub word_at : List ℕ → ℕ → ℕ
word_at bytes i = get_or bytes i 0 + 256 * get_or bytes (i + 1) 0

-- A buffer's words: half as many as bytes, an odd last byte ignored.
pub record BufferWords (bytes : List ℕ) : Type 0 where
  pub word_count : length (words_in bytes) ≡ length bytes / 2
  pub word : (k : ℕ) → k < length bytes / 2 → get_or (words_in bytes) k 0 ≡ word_at bytes (2 * k)

-- A file's stream: 254 words of each whole block; word k is in block k / 254, after its first 4 bytes.
pub record StreamWords (rules : List ℕ) : Type 0 where
  pub word_count : length (stream rules) ≡ 254 * (length rules / 512)
  pub word : (k : ℕ) → k < 254 * (length rules / 512) → get_or (stream rules) k 0 ≡ word_at rules (512 * (k / 254) + 4 + 2 * (k % 254))
