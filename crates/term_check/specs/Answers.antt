-- Answers of the parts of the check: of two terms in a row (`weighed_pair`), and where only the words left are asked (`left_after`). What is answered of one
-- term is `weighed_running` (Given).
-- Document 01, "Unfolding, size and breadth"; refusal 10.
use Rattle.std.specs.Prelude.{Option, Some, None, ℕ, length}
use Rattle.eb3.specs.Terms.{Term}
use Rattle.eb3.specs.Measures.{sat, measure_running}
use Rattle.eb3.specs.Reading.{Read, refused, taken}
use Rattle.measures.specs.declared.Joint.{Joint}
use Rattle.measures.specs.Weighing.{cap, joint_of}
use Rattle.term_check.specs.Given.{Weighed, answer_of}

-- How many words are left, or None of a refusal.
unfoldable pub left_after : {A : Type 0} → Read A → Option ℕ
left_after (refused k) = None
left_after (taken a t) = Some (length t)

-- The answer of two terms in a row.
unfoldable pub weighed_pair : Joint → Read (Term × Term) → Option Weighed
weighed_pair c (refused k) = None
weighed_pair c (taken s t) = answer_of (length t) (joint_of c (measure_running (sat cap) 1 s.0) (measure_running (sat cap) 1 s.1))
