-- What the check of a whole rule set answers, and its sections one after the other.
-- Document 01, "Blocks and the rule stream", items 2 to 5; refusals 4 to 6.
use Rattle.std.specs.Prelude.{List, ℕ, length, Ok, Err, Result}
use Rattle.eb3.specs.Editions.{Edition}
use Rattle.eb3.specs.Cells.{total_cells}
use Rattle.eb3.specs.RuleSets.{Function, Process, RuleSet, attributes}
use Rattle.eb3.specs.Measures.{sat, Measure, measure_term, measure_main}
use Rattle.eb3.specs.Reading.{Read, refused, taken, Reader, then, count_of}
use Rattle.eb3.specs.RuleReading.{read_labels, read_functions, read_processes, without_processes}
use Rattle.measures.specs.declared.Weight.{Weight}
use Rattle.measures.specs.Weighing.{cap, weight}
use Rattle.rules.specs.declared.Rules.{Rules}
use Rattle.refusals.specs.declared.Refusal.{Refusal}
use Rattle.refusals.specs.Numbers.{refusal}
use Rattle.rule_terms.specs.Weighed.{Answer, found}

-- The answer of the check: n words are left, c cells are counted, and w is main's weight.
abbrev pub found_rules : ℕ → ℕ → Weight → Result Rules Refusal
found_rules n c w = Ok (record { left = n; cells = c; weight = w })

-- What a check of a process answers: the words left, and its term's measures.
unfoldable pub process_weighed : RuleSet → (ℕ → Measure) → Read Process → Answer
process_weighed R M (refused k) = Err (refusal k)
process_weighed R M (taken P t) = found (length t) (weight (measure_term (sat cap) R M P.term))

-- And of the whole: the words left, and main's measures.
unfoldable pub main_weighed : Read RuleSet → Answer
main_weighed (refused k) = Err (refusal k)
main_weighed (taken R t) = found (length t) (weight (measure_main (sat cap) R))

unfoldable pub rules_weighed : Read RuleSet → Result Rules Refusal
rules_weighed (refused k) = Err (refusal k)
rules_weighed (taken R t) = found_rules (length t) (total_cells (attributes R)) (weight (measure_main (sat cap) R))

abbrev pub joined : ℕ → Answer → Result Rules Refusal
joined c (Ok a) = found_rules a.left c a.weight
joined c (Err k) = Err k

-- The sections as they follow one another, in an edition; `read_rules` is domains, then these.
unfoldable pub process_section : Edition → List ℕ → List (List ℕ) → List Function → Reader RuleSet
process_section L domains labels functions t = then (count_of 1 32 t) λ n. read_processes n (without_processes L domains labels functions)

unfoldable pub function_section : Edition → List ℕ → List (List ℕ) → Reader RuleSet
function_section L domains labels t = then (read_functions L (length domains) labels t) λ functions. process_section L domains labels functions

unfoldable pub label_section : Edition → List ℕ → Reader RuleSet
label_section L domains t = then (read_labels (length domains) t) λ labels. function_section L domains labels
