-- Actions of a rule set of edition 1 are small (`Small`), so that an action's number gives back its label and arguments: at most 64 labels, of at most two
-- parameters, whose domains have at most 64 elements (document 01, "Blocks and the rule stream", items 2 and 3).
use Rattle.std.proofs.Common.{arith}
use Rattle.eb3.specs.Terms.{Action, internal, visible}
use Rattle.eb3.specs.RuleSets.{RuleSet, label}
use Rattle.eb3.proofs.Laws.Elements.{within_small, arguments_two}
use Rattle.eb3.specs.WellFormedness.{WellFormedAction, Form}
use Rattle.actions.specs.Codes.{Small}

pub action_small : (R : RuleSet) → Form R → (ρ : Action) → WellFormedAction R ρ → Small ρ
action_small R form internal h = tt
action_small R form (visible a) h = (omega (arith, h.0, form.label_count.1), arguments_two R form a h, within_small R form (label R a.label) a.arguments h.1)
