-- What Count answers, by the specification's operation (document 01, "Operations"): refused as the rule set or the term is, or for want of cells; else the
-- number of moves.
use Rattle.std.specs.Prelude.{ℕ, Ok, Err, Result}
use Rattle.eb3.specs.Answers.{Answer, refused, answered}
use Rattle.refusals.specs.declared.Refusal.{Refusal}
use Rattle.refusals.specs.Numbers.{refusal}

-- The number of moves, or the refusal of this number.
unfoldable pub counted_as : Answer ℕ → Result ℕ Refusal
counted_as (refused k) = Err (refusal k)
counted_as (answered n) = Ok n
