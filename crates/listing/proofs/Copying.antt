-- The copy of a part of an array to its front (document 01, "Moves, in order").
use mathlib.Core.Path.{◌≡◌, sym, ◌∙◌}
use mathlib.Core.List.{List}
use Prim.Native.Nat.{ℕ, ◌+◌, ◌-◌, ◌≤◌, ◌<◌}
use native.Mathlib.Omega.{arith}
use lib.ListN.{length, take, get_or}
use lib.Seq.{ext_get_or, length-slice, length-take-le, get_or-take, get_or-drop, slice}

pub copied_all : (b e n : ℕ) (x x0 : List ℕ) → n ≡ e - b → b ≤ e → e ≤ length x0 → length x ≡ length x0 → ((j : ℕ) → j < n → get_or x j 0 ≡ get_or x0 (b + j) 0) → take (e - b) x ≡ slice b e x0
copied_all b e n x x0 en be el lx below =
    let l1 : length (take (e - b) x) ≡ e - b = length-take-le (e - b) x (omega arith) in
    ext_get_or 0 (take (e - b) x) (slice b e x0) (l1 ∙ sym (length-slice b e x0 el))
    (λ i lt. get_or-take (e - b) x i 0 (omega arith) ∙ below i (omega arith) ∙ sym (get_or-drop b (take e x0) i 0 ∙ get_or-take e x0 (b + i) 0 (omega arith)))
