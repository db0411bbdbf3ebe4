-- How often one word is repeated at the front of others, and what is after these.
-- Document 01, "Blocks and the rule stream", item 5: stars, whose codes are before their term's.
use Rattle.std.specs.Prelude.{List, [], ◌∷◌, ℕ, suc, eqb}
use Rattle.eb3.specs.Reading.{pick}

-- How many words at the front are w.
unfoldable pub leading : ℕ → List ℕ → ℕ
leading w [] = 0
leading w (x ∷ t) = pick (eqb x w) (suc (leading w t)) 0
