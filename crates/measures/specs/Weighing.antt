-- A weight is a measure of the specification, cut off at 65,536.
-- Document 01, "Unfolding, size and breadth"; refusals 7 and 8.
use Rattle.std.specs.Prelude.{Bool, ℕ, zero, suc, ◌+◌}
use Rattle.eb3.specs.Measures.{sat, Measure, sequence_of, choice_of, parallel_breadth_of, star_of}
use Rattle.measures.specs.declared.Weight.{Weight}
use Rattle.measures.specs.declared.Limits.{Limits}
use Rattle.measures.specs.declared.Joint.{Joint}
use Rattle.measures.specs.declared.Joint.TheVariants.{Sequence, Choice, Parallel}

abbrev pub cap : ℕ
cap = 65536

abbrev pub measure : Weight → Measure
measure w = record { size = w.size; reach = w.reach; breadth = w.breadth }

abbrev pub weight : Measure → Weight
weight m = record { size = m.size; reach = m.reach; breadth = m.breadth }

-- What is reported of a rule set with that many cells, whose main process has these measures.
abbrev pub reported : ℕ → Measure → Limits
reported cells m = record { cells = cells; reach = m.reach; breadth = m.breadth; size = m.size }

-- A parallel's measure from its sides', by whether its mask is zero.
abbrev pub parallel_by : Bool → Measure → Measure → Measure
parallel_by none l r = record {
  size = sat cap (sat cap (5 + l.size) + r.size);
  reach = sat cap (sat cap (5 + l.reach) + r.reach);
  breadth = parallel_breadth_of (sat cap) none l.breadth r.breadth;
}

-- What two terms measure together.
unfoldable pub joint_of : Joint → Measure → Measure → Measure
joint_of Sequence l r = sequence_of (sat cap) l r
joint_of Choice l r = choice_of (sat cap) l r
joint_of (Parallel z) l r = parallel_by z l r

-- n stars around a term of that measure.
unfoldable pub stars_of : ℕ → Measure → Measure
stars_of zero m = m
stars_of (suc n) m = star_of (sat cap) (stars_of n m)

-- A measure after n steps.
unfoldable pub steps : (Measure → Measure) → ℕ → Measure → Measure
steps f zero m = m
steps f (suc n) m = f (steps f n m)
