-- What `room` says of a buffer, and what `?` hands on of it (document 01, "Operations": space).
use Rattle.std.specs.Prelude.{ℕ, ◌≤◌, ◌<◌, ◌≡◌, refl, Bool, true, false, leb, Result, Ok, Err, IsErr, IsErrAnd}
use Rattle.std.proofs.Common.{sym, ap, ◌∙◌}
use Rattle.std.proofs.lemmas.Bool.{leb-true, leb-false}
use Rattle.words.specs.Laws.Reading.{handed_err}
use Rattle.eb3.specs.Reading.{pick}
use Rattle.refusals.specs.declared.Refusal.{Refusal}
use Rattle.refusals.specs.declared.Refusal.TheVariants.{Space}

roomy : Bool → Result Unit Refusal
roomy b = pick b (Ok tt) (Err Space)

fit_by : (b : Bool) (u : Unit) → roomy b ≡ Ok u → b ≡ true
unfolding roomy
fit_by true u e = refl
fit_by false u e = cc

lack_by : (b : Bool) (k : Refusal) → roomy b ≡ Err k → (b ≡ false) × (k ≡ Space)
unfolding roomy
lack_by true k e = cc
lack_by false k e = (refl, cc)

-- There is room.
pub fits : {m n : ℕ} {r : Result Unit Refusal} {u : Unit} → r ≡ pick (leb n m) (Ok tt) (Err Space) → r ≡ Ok u → n ≤ m
unfolding roomy
fits {m} {n} {r} {u} f e = leb-true n m (fit_by (leb n m) u (sym f ∙ e))

-- There is none, and `?` returns the refusal.
pub lacks : {A : Type 0} {m n : ℕ} {r : Result Unit Refusal} {k : Refusal} → r ≡ pick (leb n m) (Ok tt) (Err Space) → r ≡ Err k → (g : Result A Refusal) → IsErr g × IsErrAnd g (λ e. e ≡ k) → (g ≡ Err Space) × (m < n)
unfolding roomy
lacks {A} {m} {n} {r} {k} f e g h =
    let b = lack_by (leb n m) k (sym f ∙ e) in
    (handed_err g k h ∙ ap Err b.1, leb-false n m b.0)
