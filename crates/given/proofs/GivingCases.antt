-- A case for each way that the check of a given term returns (document 01, "Operations"; refusal 10).
use mathlib.Core.Path.{◌≡◌, refl, ap, sym, ◌∙◌, subst}
use mathlib.Core.List.{List}
use mathlib.Core.Option.{Option as Optional, none, some}
use Rattle.std.specs.Prelude.{Option, Some, None, Err, Result}
use Prim.Native.Nat.{ℕ, ◌-◌, ◌%◌, ◌≤◌, ◌<◌}
use native.Mathlib.Omega.{arith}
use native.Mathlib.Decide.{dec_lt}
use lib.ListN.{length, take, drop}
use borrow.Author.Tests.{eq-eqb, ne_eqb}
use Rattle.eb3.specs.Refusal
use Rattle.eb3.specs.Terms.{Term}
use Rattle.refusals.specs.declared.Refusal.TheVariants as Why
use Rattle.eb3.specs.Sizes.{reach, breadth}
use Rattle.eb3.proofs.Laws.Sizes.{size_below_reach}
use Rattle.eb3.specs.Spelling.{words}
use Rattle.eb3.proofs.Laws.Spelling.{words_length}
use Rattle.eb3.specs.Bytes.{words_in, word_count}
use Rattle.eb3.proofs.Laws.Bytes.{words_counted}
use Rattle.eb3.specs.Reading.{pick}
use Rattle.eb3.specs.RuleSets.{RuleSet}
use Rattle.eb3.specs.WellFormedness.{Form, Running}
use Rattle.eb3.specs.TermReading.{given_term}
use Rattle.eb3.proofs.Laws.TermReading.{given_term_exact}
use Rattle.eb3.specs.Answers.{Answer, refused, answered}
use Rattle.eb3.proofs.Laws.Answers.{not_both, answered_injective}
use Rattle.eb3.specs.Operations.{term_in}
use Rattle.eb3.specs.Answers.{or_refused}
use Rattle.tables.specs.Tables.{edition_in, declared}
use Rattle.declarations.specs.Declaring.{Declares}
use Rattle.declarations.specs.Laws.Declaring.{declared_alike}
use Rattle.cells.specs.Preparing.{Loaded}
use Rattle.cells.specs.Laws.Memory.{loaded_words}
use Rattle.term_check.specs.Given.{given}
use Rattle.term_check.specs.Laws.Alike.{given_term_alike}
use Rattle.term_check.specs.declared.Given.{Given as Weighed}
use Rattle.given.specs.declared.giving.Given.{Given}
use Rattle.given.specs.Giving.{checked_as, Spelled, TermChecked, found_term}
use Rattle.refusals.specs.declared.Refusal.{Refusal}
use Rattle.refusals.specs.Numbers.{refusal}

-- Loaded from a buffer's start, all its words: as a part that begins there.
pub loaded_part : (B M M' : List ℕ) (n : ℕ) → n ≡ word_count B → n ≤ length M → Loaded B M M' 0 n → take (n - 0) (drop 0 M') ≡ words_in B
loaded_part B M M' n e room l = let z : n - 0 ≡ n = omega arith in ap (λ k. take k M') z ∙ loaded_words B M M' n e room l

-- More words than there is room for are more than the limit.
pub over_limit : (n m : ℕ) → (n ≤ 8192 → n ≤ m) → m < n → 8192 < n
over_limit n m f h = go (dec_lt 8192 n)
  where
    go : Dec (8192 < n) → 8192 < n
    go (yes l) = l
    go (no l) = absurd (let z : ⊥ = let k : n ≤ m = f (omega arith) in omega arith in z)

-- ── what the reading says ──

given_wrong : (w : ℕ) (o : Optional Term) → None ≡ given w o → o ≡ none
unfolding given
given_wrong w none e = refl
given_wrong w (some E) e = absurd (let z : ◌≡◌ {A = ℕ} 0 1 = cc in omega arith)

given_running : (w : ℕ) (o : Optional Term) (x : Weighed) → Some x ≡ given w o → (E : Term) × (o ≡ some E) × (x.reach ≡ reach w E)
unfolding given
given_running w none x e = absurd (let z : ◌≡◌ {A = ℕ} 0 1 = cc in omega arith)
given_running w (some E) x e =
    let q : ◌≡◌ {A = Weighed} x (record { reach = reach w E; breadth = breadth E }) = cc in
    (E, refl, ap (λ y. y.reach) q)

module _ (R : RuleSet) (form : Form R) (c : ℕ) (term ws : List ℕ) where
  by_answer : (a : Answer Term) (r : Result Given Refusal) → term_in R term ≡ a → r ≡ checked_as R.edition.width c a → ((E : Term) → a ≡ answered E → Spelled R E (take (word_count term) ws)) → TermChecked R c term ws r
  by_answer a r e h s = record { answer = h ∙ ap (checked_as R.edition.width c) (sym e); spelled = λ E f. s E (sym e ∙ f) }

  refused_so : term_in R term ≡ refused Refusal.term → TermChecked R c term ws (Err Why.Term)
  unfolding checked_as refusal
  refused_so e = by_answer (refused Refusal.term) (Err Why.Term) e refl (λ E f. absurd (not_both Refusal.term E f))

  pub checked_odd : (length term % 2 ≡ 0 → ⊥) → TermChecked R c term ws (Err Why.Term)
  checked_odd h = refused_so (ap (λ b. pick b (or_refused Refusal.term (given_term R (words_in term))) (refused Refusal.term)) (ne_eqb (length term % 2) 0 h))

  module _ (ev : length term % 2 ≡ 0) where
    by_term : (o : Optional Term) → given_term R (words_in term) ≡ o → term_in R term ≡ or_refused Refusal.term o
    by_term o e =
        ap (λ b. pick b (or_refused Refusal.term (given_term R (words_in term))) (refused Refusal.term)) (eq-eqb (length term % 2) 0 ev)
        ∙ ap (or_refused Refusal.term) e

    read_so : (E : Term) → given_term R (words_in term) ≡ some E → (words_in term ≡ words R.edition.width E) × Running R E
    read_so E e =
        let p = (given_term_exact R form.proper.constants.0 (words_in term) E).0 e in
        (p.0, p.1)

    pub checked_long : 8192 < word_count term → TermChecked R c term ws (Err Why.Term)
    checked_long h = refused_so (by_term none (go (given_term R (words_in term)) refl))
      where
        go : (o : Optional Term) → given_term R (words_in term) ≡ o → given_term R (words_in term) ≡ none
        go none e = e
        go (some E) e =
            let p = (given_term_exact R form.proper.constants.0 (words_in term) E).0 e in
            absurd (let z : ⊥ = omega (arith, words_counted term, ap length p.0, words_length R E p.1.form, size_below_reach R.edition.width E, p.1.reach_limit) in z)

    module _ (T : List ℕ) (d : Declares T R) (s : List ℕ) (same : s ≡ words_in term) (g : Option Weighed) (e : g ≡ given (edition_in T).width (given_term (declared T) s)) where
      told : g ≡ given R.edition.width (given_term R (words_in term))
      told = e ∙ (λ i. given (sym d.same_edition i).width (given_term_alike (declared T) R (declared_alike T R d) s i)) ∙ ap (λ u. given R.edition.width (given_term R u)) same

      pub checked_wrong : g ≡ None → TermChecked R c term ws (Err Why.Term)
      checked_wrong f = refused_so (by_term none (given_wrong R.edition.width (given_term R (words_in term)) (sym f ∙ told)))

      pub checked_running : (x : Weighed) (z : ℕ) → g ≡ Some x → z ≡ x.reach → take (word_count term) ws ≡ s → TermChecked R c term ws (found_term c z)
      unfolding checked_as
      checked_running x z f ez l =
          let p = given_running R.edition.width (given_term R (words_in term)) x (sym f ∙ told) in
          let q = read_so p.0 p.1 in
          by_answer (answered p.0) (found_term c z) (by_term (some p.0) p.1) (ap (found_term c) (ez ∙ p.2))
          (λ E h. subst (λ F. Spelled R F (take (word_count term) ws)) (answered_injective p.0 E h) (record { words_are = l ∙ same ∙ q.0; running = q.1 }))
