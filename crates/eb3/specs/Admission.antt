-- Admit's tests: from any bytes to a rule set or one refusal (document 01, "Blocks and the rule stream" and refusals 1 to 8).
use Rattle.std.specs.Prelude.{Bool, true, ◌&&◌, List, [], ◌∷◌, ℕ, eqb, leb, ltb, length}
use Rattle.eb3.specs.Limits
use Rattle.eb3.specs.Refusal
use Rattle.eb3.specs.Sizes.{reach, breadth}
use Rattle.eb3.specs.RuleSets.{RuleSet}
use Rattle.eb3.specs.Unfolding.{unfold_main}
use Rattle.eb3.specs.Reading.{Read, pick}
use Rattle.eb3.specs.RuleReading.{read_rules}
use Rattle.eb3.specs.Answers.{Answer, refused, answered, and_then}
use Rattle.eb3.specs.Blocks.{content_words, open_blocks}

-- The stream's last used word is in the last block, so fewer words are left than a block has; and they are zero.
unfoldable pub all_zero : List ℕ → Bool
all_zero [] = true
all_zero (w ∷ ws) = eqb w 0 && all_zero ws

abbrev pub ends_right : List ℕ → Bool
ends_right rest = ltb (length rest) content_words && all_zero rest

unfoldable pub ended : {X : Type 0} → Read X → Answer X
ended (Read.refused k) = refused k
ended (Read.taken x rest) = pick (ends_right rest) (answered x) (refused Refusal.form)

-- Main's reach, then its breadth.
unfoldable pub within_limits : RuleSet → Answer RuleSet
within_limits R =
    pick (leb (reach R.edition.width (unfold_main R)) Limits.reach)
    (pick (leb (breadth (unfold_main R)) Limits.breadth) (answered R) (refused Refusal.breadth))
    (refused Refusal.size)

unfoldable pub admission : List ℕ → Answer RuleSet
admission rules = and_then (and_then (open_blocks rules) λ o. ended (read_rules o.edition o.words)) within_limits
