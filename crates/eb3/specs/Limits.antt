-- The limits, the same in every edition (document 01, "Blocks and the rule stream", "Unfolding, size and breadth").
use Rattle.std.specs.Prelude.{ℕ}

-- Refusals 7 and 8 of main's unfolding, and 10 of a given term: the largest reach and breadth.
abbrev pub reach : ℕ
reach = 8192

abbrev pub breadth : ℕ
breadth = 65535

-- Refusals 1 and 4: what a file and its stream may count.
abbrev pub blocks : ℕ
blocks = 64

abbrev pub domains : ℕ
domains = 16

abbrev pub domain_size : ℕ
domain_size = 64

abbrev pub labels : ℕ
labels = 64

abbrev pub label_parameters : ℕ
label_parameters = 2

abbrev pub functions : ℕ
functions = 16

abbrev pub processes : ℕ
processes = 32

abbrev pub process_parameters : ℕ
process_parameters = 4

abbrev pub variables : ℕ
variables = 8

-- Refusal 13: the card readers of Run's list, and the records of its table.
abbrev pub readers : ℕ
readers = 32
