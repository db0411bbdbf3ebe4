-- Words written into an array from a place on: one word, and words after others (document 01, "Moves, in order").
use mathlib.Core.Path.{◌≡◌, refl, sym, ap, ◌∙◌}
use mathlib.Core.List.{List, [], ◌∷◌, ◌++◌, append_assoc}
use Prim.Native.Nat.{ℕ, suc, ◌+◌, ◌≤◌, ◌<◌}
use native.Mathlib.Omega.{arith}
use Rattle.std.specs.Prelude.{Some}
use lib.ListN.{length, take, drop, set, length-append, length-drop, length-set}
use lib.Seq.{length-take-le, take_at, drop_at, drop-drop, set_split}
use Rattle.sharing.specs.Beginning.{put_at, reached, EndPut}

pub put_one : (x : List ℕ) (i c : ℕ) → i < length x → set x i c ≡ put_at i (c ∷ []) x
put_one x i c h =
    let e : suc i ≡ i + 1 = omega arith in
    set_split x i c h ∙ ap (λ j. take i x ++ (c ∷ drop j x)) e

-- The same, where the words are known to be one.
pub one_put : (x : List ℕ) (i c : ℕ) (w : List ℕ) → i < length x → w ≡ c ∷ [] → set x i c ≡ put_at i w x
one_put x i c w h e = put_one x i c h ∙ ap (λ v. put_at i v x) (sym e)

pub put_length : (at : ℕ) (w d : List ℕ) → at + length w ≤ length d → length (put_at at w d) ≡ length d
put_length at w d h = omega (arith, length-append (take at d) (w ++ drop (at + length w) d), length-take-le at d (omega arith), length-append w (drop (at + length w) d), length-drop (at + length w) d)

head_length : (x v : List ℕ) (i : ℕ) → i + length v ≤ length x → length (take i x ++ v) ≡ i + length v
head_length x v i h = omega (arith, length-append (take i x) v, length-take-le i x (omega arith))

-- Words after those that were written are written with them.
put_then : (x v w : List ℕ) (i : ℕ) → i + length v ≤ length x → put_at (i + length v) w (put_at i v x) ≡ put_at i (v ++ w) x
put_then x v w i h =
    let k = i + length v in
    let r = drop k x in
    let q : put_at i v x ≡ (take i x ++ v) ++ r = sym (append_assoc (take i x) v r) in
    let l : length (take i x ++ v) ≡ k = head_length x v i h in
    let a : take k (put_at i v x) ≡ take i x ++ v = ap (take k) q ∙ take_at (take i x ++ v) r k l in
    let d : drop k (put_at i v x) ≡ r = ap (drop k) q ∙ drop_at (take i x ++ v) r k l in
    let b : drop (k + length w) (put_at i v x) ≡ drop (k + length w) x = sym (drop-drop (length w) k (put_at i v x)) ∙ (ap (drop (length w)) d ∙ drop-drop (length w) k x) in
    let n : k + length w ≡ i + length (v ++ w) = omega (arith, length-append v w) in
    ap (λ z. z ++ (w ++ drop (k + length w) (put_at i v x))) a
    ∙ (append_assoc (take i x) v (w ++ drop (k + length w) (put_at i v x))
    ∙ ap (λ z. take i x ++ z) (sym (append_assoc v w (drop (k + length w) (put_at i v x))) ∙ ap (λ z. (v ++ w) ++ z) (b ∙ ap (λ j. drop j x) n)))

-- The same by what is there and where.
pub put_behind : (x v w y z : List ℕ) (i k : ℕ) → i + length v ≤ length x → k ≡ i + length v → y ≡ put_at i v x → z ≡ put_at k w y → z ≡ put_at i (v ++ w) x
put_behind x v w y z i k h e f g = g ∙ (ap (λ j. put_at j w y) e ∙ (ap (put_at (i + length v) w) f ∙ put_then x v w i h))

-- Two words.
pub put_two : (x : List ℕ) (i c d : ℕ) → i + 2 ≤ length x → set (set x i c) (i + 1) d ≡ put_at i (c ∷ d ∷ []) x
put_two x i c d h =
    let f : set x i c ≡ put_at i (c ∷ []) x = put_one x i c (omega arith) in
    let l : length (set x i c) ≡ length x = ap length f ∙ put_length i (c ∷ []) x (omega arith) in
    put_behind x (c ∷ []) (d ∷ []) (set x i c) (set (set x i c) (i + 1) d) i (i + 1) (omega arith) refl f (put_one (set x i c) (i + 1) d (omega arith))

-- ── done ──

pub end_put : (x : List ℕ) (i left a : ℕ) → i < length x → EndPut left a i x (set x i 30) (Some (reached (i + 1) left a))
end_put x i left a h = record { same_length = length-set x i 30; right = λ k. (put_one x i 30 h, refl) }
