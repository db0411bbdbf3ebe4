-- Where the tables of a rule set hold what, each place by its name: its domains, labels and processes, and how many functions it has. The tables are
-- one array of words. What they declare is `declared` and `callee` of Tables.antt; src/layout.rt has the same places for the code.
-- Document 01, "Blocks and the rule stream", items 2 to 5.
use Rattle.std.specs.Prelude.{List, ℕ, ◌+◌, ◌*◌, get_or}
use Rattle.eb3.specs.Limits

-- ── domains ──

-- How many domains there are.
abbrev pub domains_place : ℕ
domains_place = 0

-- The size of domain d.
abbrev pub sizes_place : ℕ → ℕ
sizes_place d = domains_place + 1 + d

-- ── labels ──

-- How many labels there are.
abbrev pub labels_place : ℕ
labels_place = sizes_place Limits.domains

-- How many words a label's row has: how many parameters it has, and their domains.
abbrev pub label_words : ℕ
label_words = 1 + Limits.label_parameters

-- The row of label l.
abbrev pub label_place : ℕ → ℕ
label_place l = labels_place + 1 + label_words * l

-- ── functions ──

-- How many functions there are.
abbrev pub functions_place : ℕ
functions_place = label_place Limits.labels

-- ── processes ──

-- How many processes there are.
abbrev pub processes_place : ℕ
processes_place = functions_place + 1

-- A process's row: how many parameters it has, their domains, and at the places in a row that follow here its measures and where its term begins.

-- In a process's row: the size of its term, cut off at 65,536 as the next two are.
abbrev pub size_in : ℕ
size_in = 1 + Limits.process_parameters

-- The reach of its term.
abbrev pub reach_in : ℕ
reach_in = size_in + 1

-- The breadth of its term.
abbrev pub breadth_in : ℕ
breadth_in = reach_in + 1

-- How many words of the stream are left where its term begins.
abbrev pub body_in : ℕ
body_in = breadth_in + 1

-- How many words a process's row has.
abbrev pub process_words : ℕ
process_words = body_in + 1

-- The row of process p.
abbrev pub process_place : ℕ → ℕ
process_place p = processes_place + 1 + process_words * p

-- How many words the tables are.
abbrev pub tables_length : ℕ
tables_length = process_place Limits.processes

-- ── the words at these places in tables T ──

abbrev pub domain_count : List ℕ → ℕ
domain_count T = get_or T domains_place 0

abbrev pub label_count : List ℕ → ℕ
label_count T = get_or T labels_place 0

abbrev pub function_count : List ℕ → ℕ
function_count T = get_or T functions_place 0

abbrev pub process_count : List ℕ → ℕ
process_count T = get_or T processes_place 0

-- Of the row of process p.
abbrev pub size_at : List ℕ → ℕ → ℕ
size_at T p = get_or T (process_place p + size_in) 0

abbrev pub reach_at : List ℕ → ℕ → ℕ
reach_at T p = get_or T (process_place p + reach_in) 0

abbrev pub breadth_at : List ℕ → ℕ → ℕ
breadth_at T p = get_or T (process_place p + breadth_in) 0

abbrev pub body_at : List ℕ → ℕ → ℕ
body_at T p = get_or T (process_place p + body_in) 0
