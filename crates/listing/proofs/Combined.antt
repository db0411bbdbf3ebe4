-- What combining answers: the three lists are written one after the other after both sides, and then copied to the front (document 01, "Moves, in
-- order": left's moves outside the mask, right's likewise, then pairs of equal actions in it).
use mathlib.Core.Path.{◌≡◌, sym, ap, ◌∙◌}
use mathlib.Core.Bool.{Bool}
use mathlib.Core.List.{List, ◌++◌}
use Prim.Native.Nat.{ℕ, ◌+◌, ◌-◌, ◌≤◌}
use native.Mathlib.Omega.{arith}
use lib.ListN.{length, take, drop, length-append, length-drop}
use lib.Seq.{length-take-le, take-take, slice, drop_at, take_at, take-append-add}
use Rattle.std.specs.Prelude.{Some, None}
use Rattle.listing.specs.Combining.{outside, pairs, combined, Written, Wrote, Combined}
use Rattle.listing.proofs.Writing.{Writing, writing_start}

pub begun : (p : ℕ → Bool) (left right out : List ℕ) → Writing (combined p left right) 0 out out 0 (outside p left ++ (outside p right ++ pairs p left right))
unfolding combined
begun p left right out = writing_start (combined p left right) 0 out (omega arith)

-- both are the first b numbers of x, left the first n of these and right the others; out are those after them
module _ (p : ℕ → Bool) (n b : ℕ) (x both left right out : List ℕ) (nb : n ≤ b) (fits : b ≤ length x) (isb : both ≡ take b x) (iso : out ≡ drop b x) (isl : left ≡ take n both) (isr : right ≡ drop n both) where
  made_is : combined p left right ≡ combined p (slice 0 n x) (slice n b x)
  made_is = λ i. combined p ((isl ∙ ap (take n) isb ∙ take-take n b x nb) i) ((isr ∙ ap (drop n) isb) i)

  both_len : length both ≡ b
  both_len = ap length isb ∙ length-take-le b x fits

  out_len : length out ≡ length x - b
  out_len = ap length iso ∙ length-drop b x

  pub combine_lost : {y : List ℕ} → Wrote (combined p left right) 0 out y None → Combined (combined p (slice 0 n x) (slice n b x)) b x (both ++ y) None
  combine_lost {y} w = record {
    same_length = omega (arith, length-append both y, both_len, out_len, w.same_length);
    made = omega (arith, w.written, out_len, ap length made_is);
  }

  pub combine_made : {y z : List ℕ} {e : ℕ} → Wrote (combined p left right) 0 out y (Some e) → length z ≡ length (both ++ y) → take (b + e - b) z ≡ slice b (b + e) (both ++ y)
      → Combined (combined p (slice 0 n x) (slice n b x)) b x z (Some e)
  combine_made {y} {z} {e} w l isz =
      let v : Written (combined p left right) 0 out y e = w.written in
      let k : b + e - b ≡ e = omega arith in
      let s : slice b (b + e) (both ++ y) ≡ take e y = ap (drop b) (ap (λ j. take (j + e) (both ++ y)) (sym both_len) ∙ take-append-add both y e) ∙ drop_at both (take e y) b both_len in
      record {
        same_length = omega (arith, l, length-append both y, both_len, out_len, w.same_length);
        made = record {
          fitted = omega (arith, v.inside, out_len);
          counted = omega (arith, v.end, ap length made_is);
          front = ap (λ j. take j z) (sym k) ∙ isz ∙ s ∙ ap (take e) v.text ∙ take_at (combined p left right) (drop e out) e (omega (arith, v.end)) ∙ made_is;
        };
      }
