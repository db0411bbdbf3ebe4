-- Run's list and table by card reader (document 02, K1). Each number of the list is followed by a word, its reader, 1 to 32. The table has a record for
-- each reader: how many of its numbers took a visible move, took an internal one, or were refused; three numbers of 32 bits in that order.
use Rattle.std.specs.Prelude.{Bool, true, false, ◌&&◌, cond, List, [], ◌∷◌, ◌++◌, ℕ, zero, suc, ◌+◌, ◌-◌, ◌*◌, ◌/◌, ◌%◌, eqb, leb, length, get_or}
use Rattle.eb3.specs.TransitionSystems.{Outcome, visible?, internal?, refused?, tally}
use Rattle.eb3.specs.Bytes.{words_in, doubles_in, double_words, written}
use Rattle.eb3.specs.Limits

-- ── the list ──

-- Its words by turns: move numbers, and their readers. A last word that no reader follows is no number (13 refuses it).
unfoldable pub numbers_of : List ℕ → List ℕ
numbers_of [] = []
numbers_of (k ∷ []) = []
numbers_of (k ∷ r ∷ ws) = k ∷ numbers_of ws

unfoldable pub readers_of : List ℕ → List ℕ
readers_of [] = []
readers_of (k ∷ []) = []
readers_of (k ∷ r ∷ ws) = r ∷ readers_of ws

abbrev pub numbers_in : List ℕ → List ℕ
numbers_in list = numbers_of (words_in list)

abbrev pub readers_in : List ℕ → List ℕ
readers_in list = readers_of (words_in list)

-- ── refusal 13 ──

abbrev pub reader? : ℕ → Bool
reader? r = leb 1 r && leb r Limits.readers

-- No reader is missing, and none is outside 1 to 32.
unfoldable pub all_read : List ℕ → Bool
all_read [] = true
all_read (k ∷ []) = false
all_read (k ∷ r ∷ ws) = reader? r && all_read ws

-- How many whole records a table has, 12 bytes each.
abbrev pub record_count : List ℕ → ℕ
record_count table = length table / 12

-- 13 lets the list and the table through.
unfoldable pub lets_through : List ℕ → List ℕ → Bool
lets_through list table = all_read (words_in list) && leb Limits.readers (record_count table)

-- ── counts by reader ──

-- Of what each number did, in order, and of the numbers' readers: what was done at reader r's numbers.
unfoldable pub at_reader : ℕ → List ℕ → List Outcome → List Outcome
at_reader r [] os = []
at_reader r (x ∷ rs) [] = []
at_reader r (x ∷ rs) (o ∷ os) = cond (eqb x r) (o ∷ at_reader r rs os) (at_reader r rs os)

-- A reader's record, as three numbers; n records from reader r on; the records of all readers.
abbrev pub counts_of : List Outcome → List ℕ
counts_of os = tally visible? os ∷ tally internal? os ∷ tally refused? os ∷ []

unfoldable pub counts_from : ℕ → ℕ → List ℕ → List Outcome → List ℕ
counts_from zero r rs os = []
counts_from (suc n) r rs os = counts_of (at_reader r rs os) ++ counts_from n (suc r) rs os

abbrev pub counts_by_reader : List ℕ → List Outcome → List ℕ
counts_by_reader rs os = counts_from Limits.readers 1 rs os

-- ── the table ──

-- Two lists added number by number, modulo 4,294,967,296, as far as both go.
unfoldable pub sums : List ℕ → List ℕ → List ℕ
sums [] ys = []
sums (x ∷ xs) [] = []
sums (x ∷ xs) (y ∷ ys) = (x + y) % 4294967296 ∷ sums xs ys

-- The table with counts added to its first numbers, one to each; what comes after them keeps its value.
unfoldable pub increased : List ℕ → List ℕ → List ℕ
increased counts table = written (double_words (sums (doubles_in (words_in table)) counts)) table

-- Number j of reader r's record in a table's bytes: 0 visible, 1 internal, 2 refused.
abbrev pub record_number : List ℕ → ℕ → ℕ → ℕ
record_number table r j = get_or (doubles_in (words_in table)) (3 * (r - 1) + j) 0

-- The sum of one of the three numbers over all readers' records.
unfoldable pub sum_to : ℕ → (ℕ → ℕ) → ℕ
sum_to zero f = 0
sum_to (suc n) f = sum_to n f + f (suc n)

abbrev pub column_sum : ℕ → List ℕ → ℕ
column_sum j table = sum_to Limits.readers (λ r. record_number table r j)
