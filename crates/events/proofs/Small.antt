-- An action of a rule set has at most two arguments: so a leaf is far below the limits of refusals 7 and 8, where a constant has one word.
use mathlib.Core.Path.{◌≡◌, sym, subst}
use Prim.Native.Nat.{◌≤◌}
use native.Mathlib.Omega.{arith}
use lib.ListN.{length}
use Rattle.eb3.specs.Terms.{VisibleAction, Action, Perform, internal, visible}
use Rattle.eb3.specs.RuleSets.{RuleSet}
use Rattle.eb3.specs.Sizes.{reach, breadth}
use Rattle.eb3.proofs.Laws.Sizes.{arguments_double}
use Rattle.eb3.proofs.Laws.Elements.{arguments_two}
use Rattle.eb3.specs.WellFormedness.{WellFormedAction, Running, Form}
use Rattle.eb3.specs.TermReading.{term_of_action}

module _ (R : RuleSet) (form : Form R) (one : R.edition.width ≡ 1) where
  action_reach : (a : VisibleAction) → WellFormedAction R (visible a) → reach 1 (Perform a) ≤ 8192
  unfolding reach
  action_reach a h = omega (arith, arguments_double (length a.arguments), arguments_two R form a h)

  pub leaf_running : (ρ : Action) → WellFormedAction R ρ → Running R (term_of_action ρ)
  unfolding reach breadth
  leaf_running internal h = record { form = tt; reach_limit = omega arith; breadth_limit = omega arith }
  leaf_running (visible a) h = record { form = h; reach_limit = subst (λ w. reach w (Perform a) ≤ 8192) (sym one) (action_reach a h); breadth_limit = omega arith }
