use Rattle.tables.proofs.Cases.{size_there, size_beyond}
use native.Mathlib.Omega.{arith}
use Rattle.tables.proofs.size_of.Goals as goal

pub returns-then-d-domains : goal.returns-then-d-domains
returns-then-d-domains c = (size_there _ _ _ _ c.domains.ensures c.if-d-domains.true c.entry.ensures, omega arith)

pub returns : goal.returns
returns c = (size_beyond _ _ _ c.domains.ensures c.if-d-domains.false, omega arith)
