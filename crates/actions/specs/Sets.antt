-- Sets of labels as numbers: label n is in the set if bit n is 1. A mask's four words make one number, so that the masks of nested parallels are joined in
-- one step (document 01, "Blocks and the rule stream": bit j of mask word i is label 16 × i + j; "Moves, in order").
use Rattle.std.specs.Prelude.{Bool, false, cond, ℕ, ◌+◌, ◌*◌, ◌/◌, ◌%◌, ◌^◌, eqb}
use Rattle.std.proofs.Math.ListN.{get_or}
use Rattle.std.specs.Int.Bits.{bit_or}
use Rattle.eb3.specs.Terms.{Mask}
use Rattle.actions.specs.Codes.{label_in}

abbrev pub bit_at : ℕ → ℕ → Bool
bit_at x label = eqb (x / 2 ^ label % 2) 1

-- Whether a number is that of an action whose label is in a set.
unfoldable pub in_set : ℕ → ℕ → Bool
in_set x code = cond (eqb code 0) false (bit_at x (label_in code))

unfoldable pub mask_word : Mask → ℕ → ℕ
mask_word Δ i = get_or Δ i 0 % 65536

-- The set of a mask.
unfoldable pub mask_set : Mask → ℕ
mask_set Δ = ((mask_word Δ 3 * 65536 + mask_word Δ 2) * 65536 + mask_word Δ 1) * 65536 + mask_word Δ 0

-- Whether a set has all labels of another.
abbrev pub has_all : ℕ → ℕ → Bool
has_all x y = eqb (bit_or x y) x
