-- One element is named: the old cells are copied and its cell is written (`named_one`), or it is in no cell (`named_past`); where the others do not keep
-- their values every cell is computed (`any_first`).
use mathlib.Core.Path.{◌≡◌, subst}
use Prim.Native.Nat.{◌+◌}
use Rattle.words.specs.Laws.Checking.{part}
use Rattle.expressions.specs.Answering.{Evaluated}
use Rattle.cells.specs.Frames.{kept_value, Tells}
use Rattle.cells.specs.Laws.Framing.{any_first, first_set, two_set, named_past, named_one}
use Rattle.cells.proofs.framing.fill_named.Goals as goal

pub returns-then-named-k : goal.returns-then-named-k
returns-then-named-k c = let a = c.args in (two_set a.m.now c.copy_cells.new.m c.eval_data-named.result.value (a.at + c.eval_data-named.result.value) c.eval_data-valued.result.value c.copy_cells.ensures.copied.same_length, named_one a.f a.s.now a.m.now a.from a.at a.k c.requires.old_cells (λ i. (c.slice_known-1.given i).fits) c.requires.expression.2 c.eval_data-named.result (subst (λ l. Evaluated l a.m.now c.eval_data-named.result) (part 4 a.s.now) c.eval_data-named.ensures.0) c.last-t.result.now c.last-t.ensures c.eval_data-valued.result c.eval_data-valued.ensures.0 c.last.result.now c.last.ensures (subst (λ r. Tells r c.last.result.now (λ d. d ≡ kept_value a.f)) c.if-keeps.true c.keeps.ensures) c.copy_cells.new.m c.copy_cells.ensures.copied c.if-named-k.true c.requires.cells.1)

pub returns-else-named-k : goal.returns-else-named-k
returns-else-named-k c = let a = c.args in (first_set a.m.now c.copy_cells.new.m c.eval_data-named.result.value c.copy_cells.ensures.copied.same_length, named_past a.f a.s.now a.m.now a.from a.at a.k c.requires.old_cells (λ i. (c.slice_known-1.given i).fits) c.requires.expression.2 c.eval_data-named.result (subst (λ l. Evaluated l a.m.now c.eval_data-named.result) (part 4 a.s.now) c.eval_data-named.ensures.0) c.last-t.result.now c.last-t.ensures c.eval_data-valued.result c.eval_data-valued.ensures.0 c.last.result.now c.last.ensures (subst (λ r. Tells r c.last.result.now (λ d. d ≡ kept_value a.f)) c.if-keeps.true c.keeps.ensures) c.copy_cells.new.m c.copy_cells.ensures.copied c.if-named-k.false)

pub returns : goal.returns
returns c = let a = c.args in (first_set a.m.now c.fill_each.new.m c.eval_data-named.result.value c.fill_each.ensures.0, any_first a.f a.s.now a.m.now c.fill_each.new.m a.at a.k c.eval_data-named.result.value (c.fill_each.ensures.1 a.f))
