-- Numbers put into a host's table, low byte first, one store after another (document 02, K1: 12 bytes a record, little-endian).
use Rattle.std.specs.Prelude.{ℕ, zero, suc, ◌+◌, ◌*◌, ◌/◌, ◌%◌, List, slice_index_or, slice_set}
use Rattle.readers.specs.declared.Counts.{Counts}
use Rattle.readers.specs.Table.{none}

unfoldable pub put_word : List ℕ → ℕ → ℕ → List ℕ
put_word b i w = slice_set (slice_set b (2 * i) (w % 256)) (2 * i + 1) (w / 256 % 256)

unfoldable pub put_number : List ℕ → ℕ → ℕ → List ℕ
put_number b i n = put_word (put_word b (2 * i) (n % 65536)) (2 * i + 1) (n / 65536)

abbrev pub put_record : List ℕ → ℕ → Counts → List ℕ
put_record b r c = put_number (put_number (put_number b (3 * r) c.visible) (3 * r + 1) c.internal) (3 * r + 2) c.refused

-- The first n records.
unfoldable pub put_first : ℕ → List Counts → List ℕ → List ℕ
put_first zero t b = b
put_first (suc n) t b = put_record (put_first n t b) n (slice_index_or t n none)
