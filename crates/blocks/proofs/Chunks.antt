-- A slice cut into arrays of n elements, as a file into its blocks (document 01, "Blocks and the rule stream").
use mathlib.Core.Path.{◌≡◌, ap, ◌∙◌}
use mathlib.Core.List.{List}
use Prim.Native.Nat.{ℕ, zero, suc, ◌+◌, ◌*◌, ◌<◌}
use native.Mathlib.Omega.{arith}
use lib.ListN.{length, take, drop, get_or}
use lib.Seq.{drop-drop}
use Rattle.std.specs.Simd.{first_chunks}

at : {A : Type 0} (n k i : ℕ) (s : List A) (d : List A) → i < k → get_or (first_chunks n k s) i d ≡ take n (drop (n * i) s)
at n zero i s d h = let z : ⊥ = omega arith in absurd z
at n (suc k) zero s d h = let e : n * 0 ≡ 0 = omega arith in rw e
at n (suc k) (suc i) s d h =
    let e : n + n * i ≡ n * suc i = omega arith in
    at n k i (drop n s) d (omega arith) ∙ ap (take n) (drop-drop (n * i) n s ∙ ap (λ m. drop m s) e)

pub chunk_at : {A : Type 0} (n k i : ℕ) (s d : List A) (ys : List (List A)) → ys ≡ first_chunks n k s → length ys ≡ k → i < length ys → get_or ys i d ≡ take n (drop (n * i) s)
chunk_at n k i s d ys e f h = ap (λ t. get_or t i d) e ∙ at n k i s d (omega arith)
