-- What an answer of a check says of the reading: `..-refused`, that it was refused; `..-taken`, what was read and the words after it. And readers in
-- a row, by what each read (document 01, "Operations": 4, 5 and 6 by the first offending word of the stream).
use Rattle.std.specs.Prelude.{ℕ, ◌<◌, ◌≡◌, refl, Bool, true, false, T, List, [], ◌∷◌, length, get_or, ltb, Result, Ok, Err, IsErr, IsErrAnd}
use Rattle.std.proofs.Common.{arith, sym, ap, ◌∙◌, ltb-true}
use Rattle.eb3.specs.Reading.{Read, refused, taken, Reader, pick, giving, then, both, number_of, by_number}
use Rattle.eb3.specs.Refusal as named
use Rattle.eb3.specs.Generic.Lists.{one_of}
use Rattle.words.specs.Checking.{checked, numbered, number_or, last_of}
use Rattle.words.specs.Ends.{Fine}
use Rattle.words.specs.Laws.Checking.{tail_at, tail_short, number_word}
use Rattle.refusals.specs.declared.Refusal.{Refusal}
use Rattle.refusals.specs.declared.Refusal.TheVariants.{Form}
use Rattle.refusals.specs.Numbers.{refusal, number}
use Rattle.refusals.specs.Laws.Numbers.{refusal_number, number_refusal}
use Rattle.words.specs.Readings.{Taken, RefusedAs}

pub checked_refused : {A : Type 0} (r : Read A) (k : Refusal) → Err k ≡ checked r → RefusedAs k r
unfolding checked
checked_refused (refused j) k e = record { code = j; read = refl; named = cc }
checked_refused (taken a u) k e = absurd (let z : ◌≡◌ {A = ℕ} 0 1 = cc in omega arith)

-- By the number itself, where the reading refuses by refusals' numbers only.
pub checked_refused_by : {A : Type 0} (r : Read A) (k : Refusal) → ((j : ℕ) → r ≡ refused j → T (one_of named.of_any j)) → Err k ≡ checked r → r ≡ refused (number k)
checked_refused_by r k within e =
    let h = checked_refused r k e in
    h.read ∙ ap refused (sym (ap number h.named ∙ number_refusal h.code (within h.code h.read)))

pub numbered_refused : {A : Type 0} (r : Read A) (k : ℕ) → Err k ≡ numbered r → r ≡ refused k
unfolding numbered
numbered_refused (refused j) k e = cc
numbered_refused (taken a u) k e = absurd (let z : ◌≡◌ {A = ℕ} 0 1 = cc in omega arith)

pub refused_checked : {A : Type 0} (r : Read A) (k : Refusal) → RefusedAs k r → Err k ≡ checked r
unfolding checked
refused_checked r k h = rw h.read (ap Err h.named)

-- The reading of something that is refused with k where that of another is.
pub same_refused : {A : Type 0} (r s : Read A) (k : Refusal) → r ≡ s → RefusedAs k s → RefusedAs k r
same_refused r s k e h = record { code = h.code; read = e ∙ h.read; named = h.named }

-- A refusal that `?` hands on.
pub handed_err : {A : Type 0} (r : Result A Refusal) (k : Refusal) → IsErr r × IsErrAnd r (λ e. e ≡ k) → r ≡ Err k
handed_err (Ok x) k h = absurd h.1
handed_err (Err j) k h = ap Err h.1

pub handed_on : {A : Type 0} (r g : Result A Refusal) (k : Refusal) → IsErr r × IsErrAnd r (λ e. e ≡ k) → Err k ≡ g → r ≡ g
handed_on r g k h e = handed_err r k h ∙ e

pub checked_taken : {A : Type 0} (t : List ℕ) (n : ℕ) (r : Read A) → Fine t r → Ok n ≡ checked r → Taken t n r
unfolding checked
checked_taken t n (refused j) f e = absurd (let z : ◌≡◌ {A = ℕ} 0 1 = cc in omega arith)
checked_taken t n (taken a u) f e =
    let k : n ≡ length u = cc in
    record { value = a; rest = u; read = refl; left = k; words = ap (λ j. last_of j t) k ∙ tail_at u t f; short = omega (arith, tail_short u t f) }

pub not_taken : {A : Type 0} (r : Read A) (k : Refusal) (a : A) (u : List ℕ) → RefusedAs k r → r ≡ taken a u → ⊥
not_taken r k a u h f =
    let o : refused h.code ≡ taken a u = sym h.read ∙ f in
    let z : ◌≡◌ {A = ℕ} 0 1 = cc in
    omega arith

-- ── readers in a row ──

pub giving_refused : {A B : Type 0} (f : A → B) (r : Read A) (k : ℕ) → r ≡ refused k → giving f r ≡ refused k
unfolding giving
giving_refused f r k e = rw e

pub giving_refused_as : {A B : Type 0} (f : A → B) (r : Read A) (k : Refusal) → RefusedAs k r → RefusedAs k (giving f r)
unfolding giving
giving_refused_as f r k h = record { code = h.code; read = rw h.read; named = h.named }

pub giving_taken : {A B : Type 0} (f : A → B) (r : Read A) (a : A) (u : List ℕ) → r ≡ taken a u → giving f r ≡ taken (f a) u
unfolding giving
giving_taken f r a u e = rw e

pub then_refused : {A B : Type 0} (r : Read A) (g : A → Reader B) (k : ℕ) → r ≡ refused k → then r g ≡ refused k
unfolding then
then_refused r g k e = rw e

pub then_refused_as : {A B : Type 0} (r : Read A) (g : A → Reader B) (k : Refusal) → RefusedAs k r → RefusedAs k (then r g)
unfolding then
then_refused_as r g k h = record { code = h.code; read = rw h.read; named = h.named }

pub then_taken : {A B : Type 0} (r : Read A) (g : A → Reader B) (a : A) (u : List ℕ) → r ≡ taken a u → then r g ≡ g a u
unfolding then
then_taken r g a u e = rw e

module _ {A B : Type 0} (f : Reader A) (g : Reader B) (t : List ℕ) where
  pub both_first : (k : ℕ) → f t ≡ refused k → both f g t ≡ refused k
  unfolding both then
  both_first k e = rw e

  pub both_first_as : (k : Refusal) → RefusedAs k (f t) → RefusedAs k (both f g t)
  unfolding both then
  both_first_as k h = record { code = h.code; read = rw h.read; named = h.named }

  pub both_second : (a : A) (u : List ℕ) (k : ℕ) → f t ≡ taken a u → g u ≡ refused k → both f g t ≡ refused k
  unfolding both then giving
  both_second a u k e h = rw (e, h)

  pub both_second_as : (a : A) (u : List ℕ) (k : Refusal) → f t ≡ taken a u → RefusedAs k (g u) → RefusedAs k (both f g t)
  unfolding both then giving
  both_second_as a u k e h = record { code = h.code; read = rw (e, h.read); named = h.named }

  pub both_taken : (a : A) (u : List ℕ) (b : B) (v : List ℕ) → f t ≡ taken a u → g u ≡ taken b v → both f g t ≡ taken (a, b) v
  unfolding both then giving
  both_taken a u b v e h = rw (e, h)

  -- the second, whatever it reads
  pub both_behind : (a : A) (u : List ℕ) → f t ≡ taken a u → both f g t ≡ giving (λ b. (a, b)) (g u)
  unfolding both then
  both_behind a u e = rw e

module _ {B : Type 0} (k limit : ℕ) (g : ℕ → Reader B) (t : List ℕ) where
  pub by_number_refused : (j : Refusal) → Err j ≡ checked (number_of k limit t) → RefusedAs j (by_number k limit g t)
  unfolding by_number
  by_number_refused j e = then_refused_as (number_of k limit t) g j (checked_refused (number_of k limit t) j e)

  pub by_number_refused_by : (j : Refusal) → ((i : ℕ) → number_of k limit t ≡ refused i → T (one_of named.of_any i)) → Err j ≡ checked (number_of k limit t) → by_number k limit g t ≡ refused (number j)
  unfolding by_number
  by_number_refused_by j within e = then_refused (number_of k limit t) g (number j) (checked_refused_by (number_of k limit t) j within e)

  pub by_number_numbered : (j : ℕ) → Err j ≡ numbered (number_of k limit t) → by_number k limit g t ≡ refused j
  unfolding by_number
  by_number_numbered j e = then_refused (number_of k limit t) g j (numbered_refused (number_of k limit t) j e)

  pub by_number_taken : (n : ℕ) → Ok n ≡ checked (number_of k limit t) → by_number k limit g t ≡ g (get_or t 0 0) (last_of n t)
  unfolding by_number
  by_number_taken n e = then_taken (number_of k limit t) g (get_or t 0 0) (last_of n t) (number_word k limit n t e)

pub number_below : (k limit n : ℕ) (t : List ℕ) → Ok n ≡ checked (number_of k limit t) → get_or t 0 0 < limit
unfolding number_of checked
number_below k limit n [] e = absurd (let z : ◌≡◌ {A = ℕ} 0 1 = cc in omega arith)
number_below k limit n (w ∷ t) e = go (ltb w limit) refl e
  where
    go : (b : Bool) → ltb w limit ≡ b → Ok n ≡ checked (pick b (taken w t) (refused k)) → w < limit
    go true l f = ltb-true w limit l
    go false l f = absurd (let z : ◌≡◌ {A = ℕ} 0 1 = cc in omega arith)

-- ── a number, with any two errors ──

-- With two numbers of refusals it is the reading's answer by number, whatever the second number is.
pub number_or_numbered : (k limit : ℕ) (t : List ℕ) → number_or 4 k limit t ≡ numbered (number_of k limit t)
unfolding number_or number_of numbered
number_or_numbered k limit [] = refl
number_or_numbered k limit (w ∷ t) = go (ltb w limit)
  where
    go : (b : Bool) → pick b (Ok (length t)) (Err k) ≡ numbered (pick b (taken w t) (refused k))
    go true = refl
    go false = refl

pub number_or_checked : (r : Refusal) (limit : ℕ) (t : List ℕ) → number_or Form r limit t ≡ checked (number_of (number r) limit t)
unfolding number_or number_of checked refusal
number_or_checked r limit [] = refl
number_or_checked r limit (w ∷ t) = go (ltb w limit)
  where
    go : (b : Bool) → pick b (Ok (length t)) (Err r) ≡ checked (pick b (taken w t) (refused (number r)))
    go true = refl
    go false = ap Err (sym (refusal_number r))
