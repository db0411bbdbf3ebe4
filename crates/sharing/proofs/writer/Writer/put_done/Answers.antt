-- Done is one word.
use Rattle.sharing.proofs.BeginningPuts.{end_put}
use Rattle.sharing.proofs.writer.Writer.put_done.Goals as goal

pub returns-clause-put : goal.returns-clause-put
returns-clause-put c = end_put _ _ _ _ c.if-self-at.false
