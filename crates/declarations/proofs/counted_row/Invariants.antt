use Rattle.std.specs.Prelude.{◌≡◌, List, ℕ}
use Rattle.std.specs.Fn.{FnReturnsAt}
use Rattle.eb3.specs.Reading.{Reader}
use Rattle.words.specs.Checking.{Checked, checked}
use Rattle.words.specs.Ends.{Ends}
use Rattle.words.specs.Laws.Rows.{Repeating}
use Rattle.declarations.proofs.counted_row.Given as goal

-- As many words as turns are read, by any reader that answers as `one`.
abbrev pub invariant-loop : goal.invariant-loop
invariant-loop g l = (f : Reader ℕ) → Ends f → ((s : List ℕ) (r : Checked) → FnReturnsAt g.F.Fn l.one s r → r ≡ checked (f s)) → Repeating f l.row l.n l.left l.counter
