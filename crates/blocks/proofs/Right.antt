-- One block after the other has its number and sums (document 01, "Blocks and the rule stream"; refusals 1 to 3).
use mathlib.Core.Path.{◌≡◌, refl, ap, sym, ◌∙◌}
use mathlib.Core.Bool.{Bool, false, ◌&&◌}
use mathlib.Core.List.{List}
use Prim.Native.Nat.{ℕ, zero, suc, ◌+◌, ◌*◌}
use native.Mathlib.Omega.{arith}
use lib.Dec.{eqb}
use lib.ListN.{take, drop, get_or}
use borrow.Author.Tests.{eq-eqb, ne_eqb}
use Rattle.std.specs.List.{list_all, enumerate_from}
use Rattle.std.specs.Simd.{first_chunks}
use Rattle.eb3.specs.Blocks.{Sums, sums, block_right, blocks_right}

pub wrong : {m n : ℕ} (r : Bool) → (m ≡ n → ⊥) → false ≡ (eqb m n && r)
wrong {m} {n} r h = ap (λ (b : Bool). b && r) (sym (ne_eqb m n h))

pub right : {m n : ℕ} (r : Bool) → m ≡ n → r ≡ (eqb m n && r)
right {m} {n} r h = ap (λ (b : Bool). b && r) (sym (eq-eqb m n h))

-- A block is tested by its first word, read as w, and then by its sums p.
module _ (i : ℕ) (s : List ℕ) {w : ℕ} (e : w ≡ get_or s 0 0 + 256 * get_or s 1 0) where
  pub number_wrong : (w ≡ i → ⊥) → false ≡ block_right i s
  unfolding block_right
  number_wrong h = rw (← e) (wrong _ h)

  module _ (h : w ≡ i) {p : Sums} (f : p ≡ sums s) where
    pub sum_wrong : (get_or s 2 0 ≡ p.a → ⊥) → eqb (get_or s 2 0) p.a ≡ block_right i s
    unfolding block_right
    sum_wrong k = rw (← e, ← f) (ne_eqb _ _ k ∙ (wrong _ k ∙ right _ h))

    pub sum_right : get_or s 2 0 ≡ p.a → eqb (get_or s 3 0) p.b ≡ block_right i s
    unfolding block_right
    sum_right k = rw (← e, ← f) (right _ k ∙ right _ h)

-- Each block's own test, at its number: all of them are the test of the file.
pub all_blocks : (i n : ℕ) (s : List ℕ) → list_all (λ (p : ℕ × List ℕ). block_right p.0 p.1) (enumerate_from i (first_chunks 512 n s)) ≡ blocks_right i n s
unfolding blocks_right
all_blocks i zero s = refl
all_blocks i (suc n) s =
    let e : i + 1 ≡ suc i = omega arith in
    λ j. block_right i (take 512 s) && (all_blocks (i + 1) n (drop 512 s) ∙ ap (λ k. blocks_right k n (drop 512 s)) e) j
