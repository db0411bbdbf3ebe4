-- Parts of an array: the numbers between two places, and the part lent from a place on (document 01, "Moves, in order").
use Rattle.std.specs.Prelude.{◌≡◌, List, [], ℕ, ◌-◌, ◌≤◌, length, take, drop}
use Rattle.std.proofs.Common.{ap, ◌∙◌, arith, length-drop}
use Rattle.std.proofs.Math.Seq.{slice, slice_empty}
use Rattle.words.specs.Laws.Checking.{part}

pub slice_end : (i to : ℕ) (x : List ℕ) → i ≤ to → to ≤ i → slice i to x ≡ []
slice_end i to x h k =
    let e : i ≡ to = omega arith in
    ap (λ n. slice n to x) e ∙ slice_empty to x

pub lent_len : (x : List ℕ) (n : ℕ) → length (take (length x - n) (drop n x)) ≤ length x
lent_len x n = omega (arith, ap length (part n x), length-drop n x)
