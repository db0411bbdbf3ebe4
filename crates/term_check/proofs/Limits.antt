-- A case for each way that the check of a whole given term returns: the tests on cut-off numbers are exact.
-- Document 01, "Unfolding, size and breadth"; refusal 10.
use Prim.Native.Nat.{ℕ, ◌≤◌, ◌<◌}
use native.Mathlib.Omega.{arith}
use mathlib.Core.Path.{◌≡◌, refl, sym, ap, ◌∙◌}
use mathlib.Core.List.{List, [], ◌∷◌}
use lib.ListN.{length}
use borrow.Author.Tests.{le-leb, lt-leb}
use Rattle.eb3.specs.Terms.{Term}
use Rattle.eb3.specs.Sizes.{reach, breadth}
use Rattle.eb3.specs.Measures.{sat, Measure}
use Rattle.eb3.specs.Reading.{Read, refused, taken}
use Rattle.eb3.specs.TermReading.{read_term, term_alone, given_term}
use Rattle.eb3.proofs.Laws.Sizes.{size_below_reach}
use Rattle.words.specs.Laws.Checking.{nil_form}
use Rattle.measures.specs.Weighing.{cap}
use Rattle.tables.specs.Tables.{edition_in, declared}
use Rattle.term_check.specs.declared.Given.{Given}
use Rattle.term_check.specs.Given.{Weighed, weighed_running, given}
use Rattle.term_check.specs.Laws.Answers.{reach_cut, breadth_cut, taken_size, Got, got, none_read}
use Rattle.std.specs.Prelude.{Some, None, Option}

abbrev found : ℕ → ℕ → Option Given
found g b = Some (record { reach = g; breadth = b })

abbrev alone : Read Term → Option Given
alone r = given 1 (term_alone 1 r)

-- Refused: words are left after the term, or a reach or breadth is above the limit.
alone_more : (E : Term) (u : List ℕ) → (length u ≡ 0 → ⊥) → None ≡ alone (taken E u)
unfolding given
alone_more E [] h = absurd (h refl)
alone_more E (w ∷ u) h = refl

alone_far : (E : Term) → 8192 < reach 1 E → None ≡ alone (taken E [])
unfolding given
alone_far E l = rw (lt-leb (reach 1 E) 8192 l)

alone_broad : (E : Term) → reach 1 E ≤ 8192 → 65535 < breadth E → None ≡ alone (taken E [])
unfolding given
alone_broad E k l = rw (le-leb (reach 1 E) 8192 k, lt-leb (breadth E) 65535 l)

alone_in : (E : Term) → reach 1 E ≤ 8192 → breadth E ≤ 65535 → found (reach 1 E) (breadth E) ≡ alone (taken E [])
unfolding given
alone_in E k l = rw (le-leb (reach 1 E) 8192 k, le-leb (breadth E) 65535 l)

module _ (T s : List ℕ) where
  by_reading : (r : Read Term) → read_term (declared T) s ≡ r → given (edition_in T).width (given_term (declared T) s) ≡ alone r
  unfolding given_term declared
  by_reading r e = ap (λ x. alone x) e

  -- A term has no more words than its reach.
  pub given_long : 8192 < length s → None ≡ given (edition_in T).width (given_term (declared T) s)
  unfolding given
  given_long l = go (read_term (declared T) s) refl
    where
      go : (r : Read Term) → read_term (declared T) s ≡ r → None ≡ given (edition_in T).width (given_term (declared T) s)
      go (refused k) e = sym (by_reading (refused k) e)
      go (taken E []) e = alone_far E (omega (arith, taken_size T s E [] e, size_below_reach 1 E)) ∙ sym (by_reading (taken E []) e)
      go (taken E (w ∷ u)) e = sym (by_reading (taken E (w ∷ u)) e)

  pub given_none : None ≡ weighed_running (read_term (declared T) s) → None ≡ given (edition_in T).width (given_term (declared T) s)
  unfolding given
  given_none e =
      let g = none_read (read_term (declared T) s) e in
      sym (by_reading (refused g.1.code) g.1.read)

  module _ (p : Weighed) (fits : length s ≤ 8192) (e : Some p ≡ weighed_running (read_term (declared T) s)) where
    whole : Got T s p
    whole = got T s p fits e

    pub given_more : (p.left ≡ 0 → ⊥) → None ≡ given (edition_in T).width (given_term (declared T) s)
    given_more o = alone_more whole.value whole.rest (λ z. o (whole.left ∙ z)) ∙ sym (by_reading _ whole.read)

    module _ (o : p.left ≡ 0) where
      to_end : read_term (declared T) s ≡ taken whole.value []
      to_end = whole.read ∙ ap (taken whole.value) (nil_form whole.rest (sym whole.left ∙ o))

      reach_is : p.reach ≡ sat cap (reach 1 whole.value)
      reach_is = ap (λ (m : Measure). m.reach) whole.measured ∙ reach_cut whole.value

      breadth_is : p.breadth ≡ sat cap (breadth whole.value)
      breadth_is = ap (λ (m : Measure). m.breadth) whole.measured ∙ breadth_cut whole.value

      pub given_far : 8192 < p.reach → None ≡ given (edition_in T).width (given_term (declared T) s)
      given_far l = alone_far whole.value (omega (arith, reach_is)) ∙ sym (by_reading _ to_end)

      module _ (r : p.reach ≤ 8192) where
        pub given_broad : 65535 < p.breadth → None ≡ given (edition_in T).width (given_term (declared T) s)
        given_broad l = alone_broad whole.value (omega (arith, reach_is)) (omega (arith, breadth_is)) ∙ sym (by_reading _ to_end)

        pub given_in : p.breadth ≤ 65535 → found p.reach p.breadth ≡ given (edition_in T).width (given_term (declared T) s)
        given_in l =
            let c : p.reach ≡ reach 1 whole.value = omega (arith, reach_is) in
            let d : p.breadth ≡ breadth whole.value = omega (arith, breadth_is) in
            (λ z. found (c z) (d z)) ∙ alone_in whole.value (omega (arith, reach_is)) (omega (arith, breadth_is)) ∙ sym (by_reading _ to_end)
