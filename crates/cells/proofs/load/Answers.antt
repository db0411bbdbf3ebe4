-- The memory's words are loaded, and after them zeros (`loading_zeros`), as far as there is room (`loading_end`).
use Rattle.std.proofs.Common.{◌+◌}
use native.Mathlib.Omega.{arith}
use Rattle.cells.specs.Laws.Preparing.{cleared_part, loading_zeros, loading_end}
use Rattle.cells.proofs.load.Goals as goal

pub returns : goal.returns
returns c = let a = c.args in loading_end _ _ _ _ c.min-n.result _ (omega arith) (λ h. omega arith) (loading_zeros _ _ _ c.load_words.new.m _ c.min-k.result _ (omega arith) (λ h. omega arith) c.load_words.ensures (cleared_part c.load_words.new.m c.fill.new.self (a.at + c.min-k.result) (a.at + c.min-n.result) (omega arith) (omega arith) (c.fill.ensures.after (λ y e. e))))
