-- What `.ok_or(..)?` hands on: the value that there is, or the refusal in its place (document 01, "Operations": a call answers its first refusal).
use Rattle.std.specs.Prelude.{◌≡◌, Option, Some, None, ok_or, Result, Ok, Err, IsErr, IsErrAnd}
use Rattle.std.proofs.Common.{sym, ap, ◌∙◌, refl}
use Rattle.words.specs.Laws.Reading.{handed_err}
use Rattle.refusals.specs.declared.Refusal.{Refusal}

module _ {A : Type 0} (k : Refusal) where
  some_by : (o : Option A) (x : A) → ok_or o k ≡ Ok x → o ≡ Some x
  some_by None x e = cc
  some_by (Some y) x e = cc

  none_by : (o : Option A) (j : Refusal) → ok_or o k ≡ Err j → (o ≡ None) × (j ≡ k)
  none_by None j e = (refl, cc)
  none_by (Some y) j e = cc

  -- It goes on with the value.
  pub handed_some : {o : Option A} {r : Result A Refusal} {x : A} → r ≡ ok_or o k → r ≡ Ok x → o ≡ Some x
  handed_some {o} {r} {x} f e = some_by o x (sym f ∙ e)

  -- There is none, and the refusal is returned.
  pub handed_none : {B : Type 0} {o : Option A} {r : Result A Refusal} {j : Refusal} → r ≡ ok_or o k → r ≡ Err j → (g : Result B Refusal) → IsErr g × IsErrAnd g (λ e. e ≡ j) → (o ≡ None) × (g ≡ Err k)
  handed_none {o = o} {j = j} f e g h = let b = none_by o j (sym f ∙ e) in (b.0, handed_err g j h ∙ ap Err b.1)
