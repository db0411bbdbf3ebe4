-- The cells are all kept (`all_kept`), or one element is named, or every cell is computed; a store that is being filled has room for all (`turn_room`).
use mathlib.Core.Path.{◌≡◌, refl, subst}
use Prim.Native.Nat.{◌+◌}
use native.Mathlib.Omega.{arith}
use Rattle.words.specs.Laws.Checking.{last_len}
use Rattle.expressions.specs.Stores.{now_place}
use Rattle.cells.specs.Laws.Turns.{turn_room}
use Rattle.cells.specs.Frames.{kept_value, AsksOne, Tells}
use Rattle.cells.specs.Laws.Framing.{placed_by, all_kept}
use Rattle.cells.proofs.framing.fill_function.Goals as goal

pub returns-then-m-at : goal.returns-then-m-at
returns-then-m-at c = let a = c.args in (refl, λ T r. absurd (let z : ⊥ = omega (arith, turn_room T a.m.now r c.word-k.result c.word-o.result c.word-k.ensures.0 c.word-o.ensures.0) in z))

pub returns-then-m-from : goal.returns-then-m-from
returns-then-m-from c = let a = c.args in (c.fill_each.ensures.0, c.fill_each.ensures.1 a.f a.t.now a.left (placed_by a.t.now a.f a.left c.last-s.result.now a.m.now c.word-o.result c.word-k.result c.last-s.ensures c.word-k.ensures.0 c.word-o.ensures.0))

pub returns-then-keeps : goal.returns-then-keeps
returns-then-keeps c = let a = c.args in let s = c.last-s.result.now in (c.copy_cells.ensures.copied.same_length, all_kept a.f s a.m.now (c.word.result + c.word-o.result) (now_place + c.word-o.result) c.word-k.result (λ j. c.word.ensures.0 j + c.word-o.ensures.0 j) (λ i. (c.slice_known-1.given i).fits) c.copy_cells.new.m (subst (λ q. Tells q s (λ d. d ≡ kept_value a.f)) c.if-keeps.true c.keeps.ensures) c.copy_cells.ensures.copied a.t.now a.left (placed_by a.t.now a.f a.left c.last-s.result.now a.m.now c.word-o.result c.word-k.result c.last-s.ensures c.word-k.ensures.0 c.word-o.ensures.0))

pub fill_named-requires : goal.fill_named-requires
fill_named-requires c = record {
  expression = (c.names_one.ensures.1 c.if-names_one.true, omega (arith, last_len _ _ _ c.last-s.ensures), subst (λ q. Tells q c.last-s.result.now AsksOne) c.if-names_one.true c.names_one.ensures.0);
  cells = (omega arith, omega arith, omega arith, omega arith);
  old_cells = λ j. c.word.ensures.0 j + c.word-o.ensures.0 j;
}

pub returns : goal.returns
returns c = let a = c.args in (c.fill_each-2.ensures.0, c.fill_each-2.ensures.1 a.f a.t.now a.left (placed_by a.t.now a.f a.left c.last-s.result.now a.m.now c.word-o.result c.word-k.result c.last-s.ensures c.word-k.ensures.0 c.word-o.ensures.0))
