-- A case for each way that these functions return; the premises have the form of the facts known there.
-- Document 01, "Operations": 4, 5 and 6 by the first offending word of the stream.
use Rattle.std.specs.Prelude.{◌≡◌, refl, ℕ, ◌-◌, ◌≤◌, ◌<◌, Bool, true, false, leb, List, [], ◌∷◌, length, get_or, Ok, Err}
use Rattle.std.proofs.Common.{ap, arith}
use Rattle.std.proofs.lemmas.Bool.{leb-true}
use borrow.Author.Tests.{lt-ltb, le-ltb, le-leb}
use Rattle.eb3.specs.Reading.{refused, taken, pick, count_of}
use Rattle.words.specs.Checking.{checked, number_or}
use Rattle.refusals.specs.declared.Refusal.TheVariants.{Form}
use Rattle.refusals.specs.Numbers.{refusal}

module _ {E : Type 0} (missing wrong : E) (limit : ℕ) where
  pub number_none : (t : List ℕ) → length t < 1 → Err missing ≡ number_or missing wrong limit t
  unfolding number_or
  number_none [] h = refl
  number_none (w ∷ t) h = absurd (omega arith)

  pub number_some : (t : List ℕ) (n : ℕ) → 1 ≤ length t → get_or t 0 0 < limit → n ≡ length t - 1 → Ok n ≡ number_or missing wrong limit t
  unfolding number_or
  number_some [] n h l e = absurd (omega arith)
  number_some (w ∷ t) n h l e = rw (lt-ltb w limit l) (ap Ok (omega arith))

  pub number_over : (t : List ℕ) → 1 ≤ length t → limit ≤ get_or t 0 0 → Err wrong ≡ number_or missing wrong limit t
  unfolding number_or
  number_over [] h l = absurd (omega arith)
  number_over (w ∷ t) h l = rw (le-ltb w limit l)

module _ (lo hi : ℕ) where
  pub count_none : (t : List ℕ) → length t < 1 → Err Form ≡ checked (count_of lo hi t)
  unfolding count_of checked refusal
  count_none [] h = refl
  count_none (w ∷ t) h = absurd (omega arith)

  pub count_some : (t : List ℕ) (n : ℕ) → 1 ≤ length t → lo ≤ get_or t 0 0 → get_or t 0 0 ≤ hi → n ≡ length t - 1 → Ok n ≡ checked (count_of lo hi t)
  unfolding count_of checked
  count_some [] n h l u e = absurd (omega arith)
  count_some (w ∷ t) n h l u e = simp (le-leb lo w l, le-leb w hi u) (ap Ok (omega arith))

  pub count_out : (t : List ℕ) → (lo ≤ get_or t 0 0 → get_or t 0 0 ≤ hi → ⊥) → Err Form ≡ checked (count_of lo hi t)
  unfolding count_of checked refusal
  count_out [] h = refl
  count_out (w ∷ t) h = go (leb lo w) (leb w hi) refl refl
    where
      go : (a b : Bool) → leb lo w ≡ a → leb w hi ≡ b → Err Form ≡ checked (pick a (pick b (taken w t) (refused 4)) (refused 4))
      go false b e f = refl
      go true false e f = refl
      go true true e f = absurd (h (leb-true lo w e) (leb-true w hi f))

pub ruleset cases = (number_none, number_some, number_over, count_none, count_some)
