-- Laws of cells alone, without a store: where each function's are, and that the cells of the first functions come first.
-- Document 01, "Memory and the history machine".
use Rattle.std.specs.Prelude.{◌≡◌, [], ◌∷◌}
use Rattle.std.proofs.Math.Path.{refl, ap}
use Rattle.std.proofs.Common.{◌∙◌}
use Rattle.std.proofs.Math.Option.{Option}
use Prim.Native.Nat.{ℕ, zero, suc, ◌+◌, ◌≤◌, ◌<◌}
use native.Mathlib.Omega.{arith}
use Rattle.std.proofs.Math.Decide.{ℕ_discrete}
use Rattle.std.proofs.Math.ListN.{get_or, get_or-append}
use Rattle.eb3.specs.Values.{undefined}
use Rattle.eb3.specs.Expressions.{Reading}
use Rattle.eb3.specs.Terms.{VisibleAction}
use Rattle.eb3.specs.Attributes.{Attributes, domain}
use Rattle.eb3.specs.Cells.{cell_count, cell_index, offset, cells_up_to}
use Rattle.eb3.proofs.Laws.Cells.{length_cells, cells_apart}

-- ── the places of a function's cells ──

pub offset_mono : (A : Attributes) (g i : ℕ) → g ≤ i → offset A g ≤ offset A i
offset_mono A g i h = go (ℕ_discrete g i)
  where
    go : Dec (g ≡ i) → offset A g ≤ offset A i
    go (yes e) = rw e (omega arith)
    go (no n) = let m = cells_apart A g i (omega arith) in omega arith

pub one_count : (n : ℕ) → cell_count (n ∷ []) ≡ n
unfolding cell_count
one_count n = omega arith

pub one_index : (n x : ℕ) → cell_index (n ∷ []) (x ∷ []) ≡ x
unfolding cell_index cell_count
one_index n x = omega arith

pub next_offset : (A : Attributes) (f : ℕ) → offset A (suc f) ≡ offset A f + cell_count (domain A f)
unfolding offset
next_offset A f = refl

-- ── the first cells ──

module _ (A : Attributes) (o : Option VisibleAction) (b : Reading) where
  -- The cells of the functions below f are the first cells.
  pub cells_first : (f i : ℕ) → f ≤ i → (c : ℕ) → c < offset A f → get_or (cells_up_to A o b i) c undefined ≡ get_or (cells_up_to A o b f) c undefined
  unfolding cells_up_to
  cells_first f zero h c l = let e : zero ≡ f = omega arith in ap (λ k. get_or (cells_up_to A o b k) c undefined) e
  cells_first f (suc i) h c l = go (λ k. cells_first f i k c l) (ℕ_discrete f (suc i))
    where
      go : (f ≤ i → get_or (cells_up_to A o b i) c undefined ≡ get_or (cells_up_to A o b f) c undefined) → Dec (f ≡ suc i)
          → get_or (cells_up_to A o b (suc i)) c undefined ≡ get_or (cells_up_to A o b f) c undefined
      go k (yes e) = rw e
      go k (no n) =
          get_or-append (cells_up_to A o b i) _ undefined c (omega (arith, length_cells A o b i, offset_mono A f i (omega arith))) ∙ k (omega arith)
