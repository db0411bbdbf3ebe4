-- What is answered of the code at a place where something is due: by which way, and what the answer says of the words (document 01, "Codes stand before
-- their operands").
use Rattle.std.specs.Prelude.{◌≡◌, Bool, true, false, List, length, get_or, ℕ, zero, suc, ◌≤◌, ◌<◌, ltb, None, Some, Ok, Err}
use Rattle.std.proofs.Math.Path.{refl, sym, ap, subst}
use Rattle.std.proofs.Common.{◌∙◌, arith, ltb-true, lt-ltb, le-ltb}
use Rattle.eb3.specs.Reading.{pick}
use Rattle.refusals.specs.declared.Refusal.{Refusal as Refused}
use Rattle.refusals.specs.declared.Refusal.TheVariants.{Form}
use Rattle.refusals.specs.Numbers.{refusal}
use Rattle.codes.specs.declared.Due.{Due}
use Rattle.codes.specs.Sorts.{refusal_of, refused_as, judged, code_due}
use Rattle.codes.specs.Laws.Sorts.{InRange, taken_inside, refused_outside}

none_judged : (k c : ℕ) → None ≡ refused_as k → Ok c ≡ judged k c
none_judged zero c e = refl
none_judged (suc k) c e = cc

some_judged : (k c : ℕ) (r : Refused) → Some r ≡ refused_as k → Err r ≡ judged k c
some_judged zero c r e = cc
some_judged (suc k) c r e = cc

module _ (due : Due) (s : List ℕ) (at : ℕ) where
  pub missing : length s ≤ at → Err Form ≡ code_due due s at
  unfolding code_due
  missing l = rw (le-ltb at (length s) l)

  module _ (w : ℕ) (l : at < length s) (e : w ≡ get_or s at 0) where
    there : judged (refusal_of due w) w ≡ code_due due s at
    unfolding code_due
    there = rw (lt-ltb at (length s) l, e)

    pub allowed : None ≡ refused_as (refusal_of due w) → Ok w ≡ code_due due s at
    allowed n = none_judged (refusal_of due w) w n ∙ there

    pub barred : (r : Refused) → Some r ≡ refused_as (refusal_of due w) → Err r ≡ code_due due s at
    barred r n = some_judged (refusal_of due w) w r n ∙ there

-- ── what an answer says ──

-- A code that may be at that place.
pub record CodeAt (due : Due) (s : List ℕ) (at w : ℕ) : Type 0 where
  pub there : at < length s
  pub code : get_or s at 0 ≡ w
  pub sort : InRange due w

-- No word at that place, or a code that may not be there: refused as form.
pub record NoCodeAt (due : Due) (s : List ℕ) (at : ℕ) (k : Refused) : Type 0 where
  pub form : k ≡ Form
  pub outside : at < length s → InRange due (get_or s at 0) → ⊥

judged_taken : (k c w : ℕ) → Ok w ≡ judged k c → (w ≡ c) × (k ≡ 0)
judged_taken zero c w e = (cc, refl)
judged_taken (suc k) c w e = cc

judged_refused : (k c : ℕ) (r : Refused) → Err r ≡ judged k c → (k ≡ 0 → ⊥) × (r ≡ refusal k)
judged_refused zero c r e = cc
judged_refused (suc k) c r e = (λ z. omega arith, cc)

module _ (due : Due) (s : List ℕ) (at : ℕ) where
  abbrev code : ℕ
  code = get_or s at 0

  pub code_taken : (w : ℕ) → Ok w ≡ code_due due s at → CodeAt due s at w
  unfolding code_due
  code_taken w e = go (ltb at (length s)) refl e
    where
      go : (b : Bool) → ltb at (length s) ≡ b → Ok w ≡ pick b (judged (refusal_of due code) code) (Err Form) → CodeAt due s at w
      go true l h =
          let j = judged_taken (refusal_of due code) code w h in
          record { there = ltb-true at (length s) l; code = sym j.0; sort = subst (InRange due) (sym j.0) (taken_inside due code (refusal_of due code) refl j.1) }
      go false l h = cc

  pub code_refused : (k : Refused) → Err k ≡ code_due due s at → NoCodeAt due s at k
  unfolding code_due refusal
  code_refused k e = go (ltb at (length s)) refl e
    where
      go : (b : Bool) → ltb at (length s) ≡ b → Err k ≡ pick b (judged (refusal_of due code) code) (Err Form) → NoCodeAt due s at k
      go true l h =
          let j = judged_refused (refusal_of due code) code k h in
          let o = refused_outside due code (refusal_of due code) refl j.0 in
          record { form = j.1 ∙ ap refusal o.0; outside = λ i. o.1 }
      go false l h = record { form = cc; outside = λ i. absurd (let z : ltb at (length s) ≡ true = lt-ltb at (length s) i in cc) }
