-- What Admit answers from a rule set's cells and main's measures, cut off or whole (document 01, "Operations": refusals 7 and 8, and the sizes that
-- Admit reports). Laws/Judging shows that it is `admission`'s answer.
use Rattle.std.specs.Prelude.{ℕ, leb}
use Rattle.eb3.specs.Refusal
use Rattle.eb3.specs.Measures.{Measure}
use Rattle.eb3.specs.Reading.{Read, pick}
use Rattle.eb3.specs.RuleSets.{RuleSet}
use Rattle.eb3.specs.Answers.{Answer, refused, answered, and_then, Sizes}
use Rattle.eb3.specs.Admission.{ended, within_limits}
use Rattle.eb3.specs.Operations.{sizes_needed}

abbrev pub sizes_of_measure : ℕ → Measure → Sizes
sizes_of_measure cells m = record { cells = cells; reach = m.reach; breadth = m.breadth; size = m.size }

abbrev pub judged : ℕ → Measure → Answer Sizes
judged cells m = pick (leb m.reach 8192) (pick (leb m.breadth 65535) (answered (sizes_of_measure cells m)) (refused Refusal.breadth)) (refused Refusal.size)

-- Admit by its parts: blocks, then the words after the first two.
unfoldable pub whole_of : Read RuleSet → Answer Sizes
whole_of r = and_then (and_then (ended r) within_limits) (λ R. answered (sizes_needed R))
