-- Taking an answer apart: what was answered passed every test before it.
use Rattle.std.specs.Prelude.{◌≡◌, refl, Bool, true, false, ℕ, T}
use Rattle.std.proofs.Common.{ap, sym, subst}
use Rattle.eb3.specs.Reading.{pick}
use Rattle.eb3.specs.Answers.{Answer, refused, answered, and_then}

abbrev IsAnswer : {X : Type 0} → Answer X → Type 0
IsAnswer (refused k) = ⊥
IsAnswer (answered x) = Unit

pub not_both : {X : Type 0} (k : ℕ) (x : X) → ◌≡◌ {A = Answer X} (refused k) (answered x) → ⊥
not_both k x e = subst IsAnswer (sym e) tt

abbrev value_or : {X : Type 0} → X → Answer X → X
value_or x (refused k) = x
value_or x (answered y) = y

pub answered_injective : {X : Type 0} (x y : X) → answered x ≡ answered y → x ≡ y
answered_injective x y e = ap (value_or x) e

abbrev number_or : {X : Type 0} → ℕ → Answer X → ℕ
number_or n (refused k) = k
number_or n (answered y) = n

pub refused_injective : {X : Type 0} (j k : ℕ) → ◌≡◌ {A = Answer X} (refused j) (refused k) → j ≡ k
refused_injective j k e = ap (number_or j) e

pub and_then_answered : {X Y : Type 0} (a : Answer X) (f : X → Answer Y) (y : Y) → and_then a f ≡ answered y → (x : X) × (a ≡ answered x) × (f x ≡ answered y)
unfolding and_then
and_then_answered (refused k) f y e = absurd (not_both k y e)
and_then_answered (answered x) f y e = (x, refl, e)

-- A test that would refuse, passed.
pub pick_answered : {X : Type 0} (b : Bool) (a : Answer X) (k : ℕ) (x : X) → pick b a (refused k) ≡ answered x → T b × (a ≡ answered x)
pick_answered true a k x e = (tt, e)
pick_answered false a k x e = absurd (not_both k x e)
