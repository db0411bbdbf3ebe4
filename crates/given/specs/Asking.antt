-- What Move and Present ask for (document 01, "Operations": the move of a number, or the smallest k whose action is the given event; refusal 11).
use Rattle.std.specs.Prelude.{Option, Some, None, ◌≡◌, List}
use Rattle.std.proofs.Math.Option.{Option as Optional}
use Rattle.std.proofs.Math.ListN.{get_elem?}
use Rattle.eb3.specs.Terms.{Action}
use Rattle.eb3.specs.Moves.{Move}
use Rattle.eb3.specs.RuleSets.{RuleSet}
use Rattle.eb3.specs.Answers.{Answer, refused, answered}
use Rattle.eb3.specs.Operations.{event_in, at_first, choice_by_number, choice_by_event}
use Rattle.actions.specs.Codes.{action_code, Small}
use Rattle.given.specs.declared.asking.Request.{Request}
use Rattle.given.specs.declared.asking.Request.TheVariants as request
use Rattle.given.specs.declared.asking.Wanted.{Wanted}
use Rattle.given.specs.declared.asking.Wanted.TheVariants as wanted

-- Which of the listed moves: that of a number, or the first with the event's action; refusal 11 where the event is none.
unfoldable pub asked_of : Request → RuleSet → Answer (List Move → Optional Move)
asked_of (request.Move k) R = choice_by_number k
asked_of (request.Event event) R = choice_by_event R event.now

-- The number of an event's action; none where there is no event.
unfoldable pub event_asked : Answer Action → Option Wanted
event_asked (refused j) = None
event_asked (answered ρ) = Some (wanted.Action (action_code ρ))

-- A number, or the number of an event's action.
abbrev pub asked_as : Request → RuleSet → Option Wanted
asked_as (request.Move k) R = Some (wanted.Number k)
asked_as (request.Event event) R = event_asked (event_in R event.now)

-- What is wanted, a number or an action's number, means a choice among the listed moves.
abbrev pub Chooses : Wanted → (List Move → Optional Move) → Type 0
Chooses (wanted.Number k) choose = choose ≡ (λ xs. get_elem? xs k)
Chooses (wanted.Action x) choose = (ρ : Action) × Small ρ × (x ≡ action_code ρ) × (choose ≡ at_first ρ)
