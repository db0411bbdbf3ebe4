-- The blocks that hold a rule set's stream: numbers, sums, contents, zeros after the last used word (document 01, "Blocks and the rule stream").
-- Every well-formed rule set that fits into 64 blocks is admitted from its file (Laws/Files).
use Rattle.std.specs.Prelude.{List, [], ◌∷◌, ◌++◌, ℕ, zero, suc, ◌+◌, ◌-◌, ◌*◌, ◌/◌, length, take, drop, replicate}
use Rattle.eb3.specs.RuleSets.{RuleSet}
use Rattle.eb3.specs.RuleSpelling.{rules_words, stream_words}
use Rattle.eb3.specs.Bytes.{bytes_of}
use Rattle.eb3.specs.Blocks.{content_bytes, content_words, Sums, sums_from}

-- Block i with a content of 508 bytes.
abbrev pub block_sums : ℕ → List ℕ → Sums
block_sums i content = sums_from (record { a = 0; b = 0 }) (bytes_of (i ∷ []) ++ content)

unfoldable pub block_of : ℕ → List ℕ → List ℕ
block_of i content = bytes_of (i ∷ []) ++ ((block_sums i content).a ∷ (block_sums i content).b ∷ content)

-- n blocks from number i on.
unfoldable pub blocks_from : ℕ → ℕ → List ℕ → List ℕ
blocks_from i zero bytes = []
blocks_from i (suc n) bytes = block_of i (take content_bytes bytes) ++ blocks_from (suc i) n (drop content_bytes bytes)

-- How many words a rule set's stream uses, with the first two, the edition and the number of blocks; and how many blocks hold them.
abbrev pub words_used : RuleSet → ℕ
words_used R = 2 + length (rules_words R)

abbrev pub blocks_needed : RuleSet → ℕ
blocks_needed R = (words_used R + (content_words - 1)) / content_words

unfoldable pub file_of : RuleSet → List ℕ
file_of R = blocks_from 0 (blocks_needed R) (bytes_of (stream_words (blocks_needed R) R ++ replicate (content_words * blocks_needed R - words_used R) 0))
