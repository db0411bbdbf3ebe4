-- What the printing program reads (document 01, "Examples": "word 1 says how many; outside 1 to 64, one is read").
use Rattle.std.specs.Prelude.{ℕ, cond, ltb}

-- The blocks that are read where word 1 says n.
unfoldable pub blocks_read : ℕ → ℕ
blocks_read n = cond (ltb n 1) 1 (cond (ltb 64 n) 1 n)
