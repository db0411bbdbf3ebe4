-- Equality of actions is decided by the test, and actions form a set.
use Rattle.std.specs.Prelude.{◌≡◌, refl, T, eqb}
use Rattle.std.proofs.Common.{eqb→eq}
use Rattle.std.proofs.Math.Dec.{eqb_refl}
use Rattle.eb3.specs.Generic.Booleans.{T_and, T_fst, T_snd}
use Rattle.eb3.specs.Generic.Lists.{same_list, same_list→eq, same_list_refl}
use Rattle.eb3.specs.Terms.{VisibleAction_set, Action, internal, visible, Action_set_over, same_action}

pub same_action→eq : (a b : Action) → T (same_action a b) → a ≡ b
unfolding same_action
same_action→eq internal internal t = refl
same_action→eq internal (visible b) t = absurd t
same_action→eq (visible a) internal t = absurd t
same_action→eq (visible a) (visible b) t = λ i. visible (record {
  label = eqb→eq a.label b.label (T_fst (eqb a.label b.label) (same_list a.arguments b.arguments) t) i;
  arguments = same_list→eq a.arguments b.arguments (T_snd (eqb a.label b.label) (same_list a.arguments b.arguments) t) i;
})

pub same_action_refl : (a : Action) → T (same_action a a)
unfolding same_action
same_action_refl internal = tt
same_action_refl (visible a) = T_and (eqb a.label a.label) (same_list a.arguments a.arguments) (eqb_refl a.label) (same_list_refl a.arguments)

pub Action_set : IsSet Action
Action_set = Action_set_over VisibleAction_set
