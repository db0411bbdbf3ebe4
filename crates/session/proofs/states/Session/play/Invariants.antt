-- The moves taken are no more than the turns that are gone.
use Rattle.std.proofs.Common.{◌≤◌}
use Rattle.session.proofs.states.Session.play.Given as goal

abbrev pub invariant-loop-turn : goal.invariant-loop-turn
invariant-loop-turn l = l.taken ≤ l._turn
