-- A part is copied from its place in the unfolding (document 01, "Operations": Run writes the last term).
use mathlib.Core.Path.{refl}
use Rattle.words.specs.Laws.Checking.{last_len}
use Rattle.sharing.proofs.ExpandingCases.{part_made}
use native.Mathlib.Omega.{arith}
use Rattle.sharing.proofs.expansion.Expansion.expand_part.Goals as goal

pub skip-requires : goal.skip-requires
skip-requires c = omega (arith, last_len _ _ _ c.last-e.ensures)

pub returns-clause-expanded : goal.returns-clause-expanded
returns-clause-expanded c = part_made _ _ _ _ c.if-w-lt32.false c.last-e.ensures c.skip.ensures _ _ _ _ _ (omega arith) c.if-self-at.false refl c.copy_words.ensures
