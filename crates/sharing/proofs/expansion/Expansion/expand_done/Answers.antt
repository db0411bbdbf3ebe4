-- Done is one word (document 01, "Operations": Run writes the last term).
use Rattle.sharing.proofs.ExpandingCases.{done_made}
use Rattle.sharing.proofs.expansion.Expansion.expand_done.Goals as goal

pub returns-clause-expanded : goal.returns-clause-expanded
returns-clause-expanded c = done_made _ _ _ c.if-self-at.false
