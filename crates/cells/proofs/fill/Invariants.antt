-- Each turn of the loop is one function's (`fill_next`); after the last all cells are new (`fill_end`).
use mathlib.Core.Path.{◌≡◌}
use lib.ListN.{length}
use mathlib.Core.Option.{Option}
use Rattle.eb3.specs.Expressions.{Reading}
use Rattle.eb3.specs.Terms.{VisibleAction}
use Rattle.eb3.specs.Attributes.{Attributes}
use Rattle.eb3.specs.Cells.{offset}
use Rattle.cells.specs.Filling.{Filling}
use Rattle.cells.specs.Turns.{Partly}
use Rattle.cells.proofs.fill.Given as goal

-- Each turn of the loop is one function's (`fill_next`); after the last all cells are new (`fill_end`).
abbrev pub invariant-loop-f : goal.invariant-loop-f
invariant-loop-f l = (length l.m ≡ length l.initial.m) × ((A : Attributes) (o : Option VisibleAction) (b : Reading) → Filling A o b l.functions.words.now l.functions.directory.now l.initial.m l.functions.width l.j l.functions.count → Partly A o b l.initial.m l.m (offset A l.f))
