-- What the check of a running term answers of a reading (document 01, refusal 10: a given term isn't exactly one running term of this rule set within
-- 7's and 8's limits).
use Rattle.std.proofs.Math.Option.{Option as Optional, none, some}
use Rattle.std.specs.Prelude.{Option, Some, None, ℕ, length}
use Rattle.eb3.specs.Terms.{Term}
use Rattle.eb3.specs.Sizes.{reach, breadth}
use Rattle.eb3.specs.Measures.{sat, Measure, measure_running}
use Rattle.eb3.specs.Reading.{Read, refused, taken}
use Rattle.measures.specs.Weighing.{cap}
use Rattle.term_check.specs.declared.Given.{Given}

-- What is said of a term that was read: how many words are left after it, and its reach and breadth, both cut off at 65,536. Its size is the words taken.
pub record Weighed : Type 0 where
  pub left : ℕ
  pub reach : ℕ
  pub breadth : ℕ

-- n words are left after a term with these measures.
abbrev pub answer_of : ℕ → Measure → Option Weighed
answer_of n m = Some (record { left = n; reach = m.reach; breadth = m.breadth })

-- The answer to a reading: None if it is refused.
unfoldable pub weighed_running : Read Term → Option Weighed
weighed_running (refused k) = None
weighed_running (taken E t) = answer_of (length t) (measure_running (sat cap) 1 E)

-- A given term's reach and breadth, or that it is none; a constant has `width` words.
unfoldable pub given : ℕ → Optional Term → Option Given
given width none = None
given width (some E) = Some (record { reach = reach width E; breadth = breadth E })
