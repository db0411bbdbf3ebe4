-- The tables that process terms are read by, in one array of words, and the rule set that they declare: what comes before the term in a stream.
-- The places of its words are those of Layout.antt.
-- Document 01, "Blocks and the rule stream", item 5: masks and arguments, and what they are judged by.
use Rattle.std.specs.Prelude.{List, [], ◌∷◌, ℕ, zero, suc, ◌+◌, eqb, ltb, leb, length, take, drop, get_or, replicate}
use Rattle.eb3.specs.Expressions.{Undefined}
use Rattle.eb3.specs.Refusal
use Rattle.eb3.specs.Editions.{Edition, edition_1}
use Rattle.eb3.specs.RuleSets.{Argument, constant_argument, variable_argument, rule_internal, Function, Process, RuleSet, domain_size}
use Rattle.eb3.specs.Reading.{refused, taken, Reader, pick, then, by_number, number_in}
use Rattle.eb3.specs.Measures.{sat, Measure, nothing}
use Rattle.tables.specs.Layout.{sizes_place, label_place, process_place, domain_count, label_count, function_count, process_count, size_at, reach_at, breadth_at}

-- f i, f (i + 1) and so on, n of them.
unfoldable pub from : {A : Type 0} → ℕ → ℕ → (ℕ → A) → List A
from i zero f = []
from i (suc n) f = f i ∷ from (suc i) n f

-- A count at a place, and that many words after it.
unfoldable pub row : List ℕ → ℕ → List ℕ
row T at = take (get_or T at 0) (drop (at + 1) T)

-- Functions of one parameter, their expressions unsaid: a guard asks for no more.
abbrev pub some_function : Function
some_function = record { parameters = 0 ∷ []; at_start = Undefined; at_label = [] }

abbrev pub process_row : List ℕ → ℕ → Process
process_row T p = record { parameters = row T (process_place p); term = rule_internal }

-- The edition of a rule set with these tables: there is no other.
abbrev pub edition_in : List ℕ → Edition
edition_in T = edition_1

unfoldable pub declared : List ℕ → RuleSet
declared T = record {
  edition = edition_in T;
  domains = from 0 (domain_count T) (λ d. get_or T (sizes_place d) 0);
  labels = from 0 (label_count T) (λ l. row T (label_place l));
  functions = replicate (function_count T) some_function;
  processes = from 0 (process_count T) (process_row T);
}

-- The measures of process p, as they are stored in the tables; those of nothing where there is no process p.
abbrev pub measure_row : List ℕ → ℕ → Measure
measure_row T p = record { size = size_at T p; reach = reach_at T p; breadth = breadth_at T p }

unfoldable pub callee : List ℕ → ℕ → Measure
callee T p = pick (ltb p (process_count T)) (measure_row T p) (nothing (sat 65536))

-- What comes after an argument's code 1 and 2: as `argument_of` reads it.
unfoldable pub constant_of_domain : RuleSet → ℕ → Reader Argument
constant_of_domain R d t = then (number_in R.edition.width t) λ v u. pick (leb v R.edition.top) (pick (ltb v (domain_size R d)) (taken (constant_argument v) u) (refused Refusal.kind)) (refused Refusal.form)

unfoldable pub variable_of_domain : List ℕ → ℕ → Reader Argument
variable_of_domain Γ d t = by_number Refusal.reference (length Γ) (λ i u. pick (eqb (get_or Γ i 0) d) (taken (variable_argument i) u) (refused Refusal.kind)) t
