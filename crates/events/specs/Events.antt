-- What the words of an event say: the action's number, or that they are no event (document 01, refusal 11).
use Rattle.std.proofs.Math.Option.{Option as Optional, none, some}
use Rattle.std.specs.Prelude.{ℕ, Option, Some, None}
use Rattle.eb3.specs.Terms.{Action}
use Rattle.actions.specs.Codes.{action_code}

unfoldable pub event_as : Optional Action → Option ℕ
event_as none = None
event_as (some ρ) = Some (action_code ρ)
