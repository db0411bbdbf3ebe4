-- Stars at the front: the words after them are read under as many stars.
-- Document 01, "Unfolding, size and breadth"; refusal 10.
use Prim.Native.Nat.{ℕ, zero, suc, ◌+◌, ◌-◌, ◌≤◌}
use native.Mathlib.Numerals.{add-one}
use native.Mathlib.Omega.{arith}
use mathlib.Core.Path.{◌≡◌, refl, sym, ap, ◌∙◌}
use mathlib.Core.Bool.{Bool, true, false}
use mathlib.Core.List.{List, [], ◌∷◌}
use lib.Dec.{eqb}
use lib.ListN.{length, drop, length-drop}
use borrow.Author.Tests.{eqb-true}
use Rattle.eb3.specs.Terms.{Term, Star}
use Rattle.eb3.specs.RuleSets.{RuleSet}
use Rattle.eb3.specs.Measures.{sat, star_of, measure_running}
use Rattle.eb3.specs.Reading.{Read, taken, pick, giving}
use Rattle.eb3.specs.TermReading.{TermKind, term_kind, read_term}
use Rattle.words.specs.Checking.{last_of}
use Rattle.measures.specs.declared.Weight.{Weight}
use Rattle.measures.specs.Weighing.{cap, measure, stars_of}
use Rattle.std.specs.Prelude.{Option, Some, None}
use Rattle.tables.specs.Tables.{declared}
use Rattle.words.specs.Readings.{RefusedAs}
use Rattle.words.specs.Laws.Reading.{giving_refused_as, same_refused}
use Rattle.term_check.specs.Given.{Weighed, answer_of, weighed_running}
use Rattle.words.specs.Repeats.{leading}
use Rattle.words.specs.Laws.Repeats.{leading_short}
use Rattle.term_check.specs.Laws.Reading.{term_case}
use Rattle.term_check.specs.Laws.Answers.{refused_none, none_read, measure_said, Got, got}
use Rattle.refusals.specs.declared.Refusal.{Refusal}

-- ── reading ──

unfoldable stars_over : ℕ → Read Term → Read Term
stars_over zero r = r
stars_over (suc k) r = giving Star (stars_over k r)

unfoldable stars_around : ℕ → Term → Term
stars_around zero E = E
stars_around (suc k) E = Star (stars_around k E)

stars_read : (R : RuleSet) (t : List ℕ) → read_term R t ≡ stars_over (leading 24 t) (read_term R (drop (leading 24 t) t))
unfolding leading stars_over
stars_read R [] = refl
stars_read R (w ∷ t) = go (stars_read R t) (eqb w 24) refl
  where
    go : read_term R t ≡ stars_over (leading 24 t) (read_term R (drop (leading 24 t) t)) → (b : Bool) → eqb w 24 ≡ b
        → read_term R (w ∷ t) ≡ stars_over (pick b (suc (leading 24 t)) 0) (read_term R (drop (pick b (suc (leading 24 t)) 0) (w ∷ t)))
    go h true e = term_case R (w ∷ t) TermKind.star (λ z. omega arith) (ap term_kind (eqb-true w 24 e)) ∙ ap (giving Star) h
    go h false e = refl

stars_refused : (k : ℕ) (j : Refusal) (r : Read Term) → RefusedAs j r → RefusedAs j (stars_over k r)
unfolding stars_over
stars_refused zero j r h = h
stars_refused (suc k) j r h = giving_refused_as Star (stars_over k r) j (stars_refused k j r h)

stars_taken : (k : ℕ) (E : Term) (u : List ℕ) → stars_over k (taken E u) ≡ taken (stars_around k E) u
unfolding stars_over stars_around giving
stars_taken zero E u = refl
stars_taken (suc k) E u = ap (giving Star) (stars_taken k E u)

stars_measured : (k : ℕ) (E : Term) → measure_running (sat cap) 1 (stars_around k E) ≡ stars_of k (measure_running (sat cap) 1 E)
unfolding stars_around stars_of measure_running
stars_measured zero E = refl
stars_measured (suc k) E = ap (star_of (sat cap)) (stars_measured k E)

-- k stars are at the front of t, and r is what is after them
module _ (T t : List ℕ) (k : ℕ) (r : List ℕ) (f : k ≡ leading 24 t) (l : r ≡ last_of (length t - k) t) where
  behind_stars : r ≡ drop k t
  unfolding last_of
  behind_stars =
      let n : length t - (length t - k) ≡ k = omega (arith, f, leading_short 24 t) in
      l ∙ ap (λ j. drop j t) n

  long : length r ≡ length t - k
  long = ap length behind_stars ∙ length-drop k t

  all_read : giving Star (read_term (declared T) t) ≡ stars_over (suc k) (read_term (declared T) r)
  unfolding stars_over
  all_read = ap (giving Star) (stars_read (declared T) t ∙ (λ j. stars_over (sym f j) (read_term (declared T) (drop (sym f j) t))) ∙ ap (λ u. stars_over k (read_term (declared T) u)) (sym behind_stars))

  pub star_none : None ≡ weighed_running (read_term (declared T) r) → None ≡ weighed_running (giving Star (read_term (declared T) t))
  star_none e =
      let g = none_read (read_term (declared T) r) e in
      refused_none _ g.0 (same_refused _ _ g.0 all_read (stars_refused (suc k) g.0 _ g.1))

  module _ (fits : length t ≤ 8192) (p : Weighed) (e : Some p ≡ weighed_running (read_term (declared T) r)) where
    under : Got T r p
    under = got T r p (omega (arith, long)) e

    pub star_short : p.left ≤ length t - k
    star_short = omega (arith, long, under.short)

    pub star_in : (a x : Weight) → measure a ≡ measure_said (length t - k - p.left) p → measure x ≡ stars_of (k + 1) (measure a)
        → (y : Option Weighed) → y ≡ answer_of p.left (measure x) → y ≡ weighed_running (giving Star (read_term (declared T) t))
    unfolding weighed_running
    star_in a x i h y g =
        let o = under in
        let m : measure a ≡ measure_running (sat cap) 1 o.value = i ∙ (λ j. measure_said (sym long j - p.left) p) ∙ o.measured in
        let z : giving Star (read_term (declared T) t) ≡ taken (stars_around (suc k) o.value) o.rest = all_read ∙ ap (stars_over (suc k)) o.read ∙ stars_taken (suc k) o.value o.rest in
        g ∙ (λ j. answer_of (o.left j) (h j)) ∙ (λ j. answer_of (length o.rest) (stars_of (add-one k j) (m j)))
        ∙ (λ j. answer_of (length o.rest) (sym (stars_measured (suc k) o.value) j)) ∙ sym (ap weighed_running z)

pub stars_short : (t : List ℕ) (k : ℕ) → k ≡ leading 24 t → k ≤ length t
stars_short t k e = rw e (leading_short 24 t)

pub ruleset starred_terms = (star_none, star_short, stars_short)
