-- A case for each way that the values of variables are found. The premises have the form of the facts known there.
use mathlib.Core.Path.{◌≡◌, refl, sym, ap, ◌∙◌}
use mathlib.Core.List.{List, [], ◌∷◌, ◌++◌}
use Prim.Native.Nat.{ℕ, zero, suc, ◌+◌, ◌*◌, ◌<◌}
use native.Mathlib.Numerals.{add-one}
use native.Mathlib.Omega.{arith}
use lib.ListN.{length, take, get_or, set}
use lib.Seq.{take-suc-set}
use borrow.Author.Tests.{eq-eqb, ne_eqb}
use Rattle.tables.specs.Tables.{from}
use Rattle.unfold.specs.Saying.{argument_at}

-- ── arguments ──

pub argument_variable : (σ s : List ℕ) (j c v x r : ℕ) → c ≡ get_or s (2 * j) 0 → v ≡ get_or s (2 * j + 1) 0 → c ≡ 2 → x ≡ v → r ≡ get_or σ x 0 → r ≡ argument_at σ s j
unfolding argument_at
argument_variable σ s j c v x r e f g h k = rw (eq-eqb (get_or s (2 * j) 0) 2 (sym e ∙ g)) (k ∙ ap (λ n. get_or σ n 0) (h ∙ f))

pub argument_constant : (σ s : List ℕ) (j c v : ℕ) → c ≡ get_or s (2 * j) 0 → v ≡ get_or s (2 * j + 1) 0 → (c ≡ 2 → ⊥) → v ≡ argument_at σ s j
unfolding argument_at
argument_constant σ s j c v e f g = rw (ne_eqb (get_or s (2 * j) 0) 2 (λ h. g (e ∙ h))) f

from_next : {A : Type 0} (i n : ℕ) (f : ℕ → A) → from i (suc n) f ≡ from i n f ++ (f (i + n) ∷ [])
unfolding from
from_next i zero f = ap (λ k. f k ∷ []) (let e : i ≡ i + 0 = omega arith in e)
from_next i (suc n) f = ap (λ l. f i ∷ l) (from_next (suc i) n f ∙ ap (λ k. from (suc i) n f ++ (f k ∷ [])) (let e : suc i + n ≡ i + suc n = omega arith in e))

pub values_none : (vs : List ℕ) (f : ℕ → ℕ) → take 0 vs ≡ from 0 0 f
unfolding from
values_none vs f = refl

pub values_next : (vs : List ℕ) (j v : ℕ) (f : ℕ → ℕ) → j < length vs → take j vs ≡ from 0 j f → v ≡ f j → take (j + 1) (set vs j v) ≡ from 0 (j + 1) f
values_next vs j v f h e k =
    rw (add-one j) (take-suc-set vs j v h ∙ (λ i. e i ++ (k i ∷ [])) ∙ ap (λ n. from 0 j f ++ (f n ∷ [])) (let z : j ≡ 0 + j = omega arith in z) ∙ sym (from_next 0 j f))
