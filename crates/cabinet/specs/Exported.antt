-- What each exported function gives to C: `refusal` is 0 where the operation was done, else document 01's number, and then every other field is 0.
use Rattle.std.specs.Prelude.{Result, Ok, Err, Option, Some, None, ℕ, length, get_or}
use Rattle.refusals.specs.declared.Refusal.{Refusal}
use Rattle.refusals.specs.Numbers.{number}
use Rattle.engine.specs.declared.stepping.Step.{Step}
use Rattle.engine.specs.declared.stepping.Visible.{Visible}
use Rattle.eb3.specs.Terms.{Action, internal, visible}
use Rattle.eb3.specs.Answers.{Answer, refused, answered, Sizes, Moved, Ran}
use Rattle.cabinet.specs.declared.Sizes.{Sizes as CSizes}
use Rattle.cabinet.specs.declared.Started.{Started as CStarted}
use Rattle.cabinet.specs.declared.Counted.{Counted as CCounted}
use Rattle.cabinet.specs.declared.Moved.{Moved as CMoved}
use Rattle.cabinet.specs.declared.Ran.{Ran as CRan}

unfoldable pub sizes : Answer Sizes → CSizes
sizes (refused k) = record { refusal = k; cells = 0; reach = 0; breadth = 0; size = 0 }
sizes (answered S) = record { refusal = 0; cells = S.cells; reach = S.reach; breadth = S.breadth; size = S.size }

unfoldable pub started : Answer ℕ → CStarted
started (refused k) = record { refusal = k; size = 0 }
started (answered n) = record { refusal = 0; size = n }

unfoldable pub counted : Answer ℕ → CCounted
counted (refused k) = record { refusal = k; moves = 0 }
counted (answered n) = record { refusal = 0; moves = n }

-- A visible action: 1, its label, how many arguments it has, and they; of an internal one every field is 0.
unfoldable pub moved_by : Action → ℕ → CMoved
moved_by internal n = record { refusal = 0; size = n; visible = 0; label = 0; arguments = 0; first = 0; second = 0 }
moved_by (visible a) n = record { refusal = 0; size = n; visible = 1; label = a.label; arguments = length a.arguments; first = get_or a.arguments 0 0; second = get_or a.arguments 1 0 }

unfoldable pub moved : Answer Moved → CMoved
moved (refused k) = record { refusal = k; size = 0; visible = 0; label = 0; arguments = 0; first = 0; second = 0 }
moved (answered m) = moved_by m.action m.size

-- What the engine's answer gives: with a visible action, and with the internal one.
abbrev pub exported_action : ℕ → Option Visible → CMoved
exported_action n (Some a) = record { refusal = 0; size = n; visible = 1; label = a.label; arguments = a.arguments; first = a.first; second = a.second }
exported_action n None = record { refusal = 0; size = n; visible = 0; label = 0; arguments = 0; first = 0; second = 0 }

unfoldable pub exported_step : Result Step Refusal → CMoved
exported_step (Ok s) = exported_action s.size s.action
exported_step (Err k) = record { refusal = number k; size = 0; visible = 0; label = 0; arguments = 0; first = 0; second = 0 }

unfoldable pub ran : Answer Ran → CRan
ran (refused k) = record { refusal = k; size = 0; visible = 0; internal = 0; refused = 0 }
ran (answered m) = record { refusal = 0; size = m.size; visible = m.visible; internal = m.internal; refused = m.refusals }
