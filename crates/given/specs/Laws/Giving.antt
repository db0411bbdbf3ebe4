-- Laws of a rule set and a term together: what admitting the one and reading the other say of both (document 01, "Operations").
use Rattle.std.specs.Prelude.{◌≡◌, List, ◌++◌, ℕ, ◌*◌, ◌≤◌, length, take, drop, Err, Result}
use Rattle.std.proofs.Math.Path.{refl, ap, sym}
use Rattle.std.proofs.Common.{◌∙◌, subst, arith}
use Rattle.eb3.specs.Refusal as Why
use Rattle.eb3.specs.Generic.Lists.{one_of, all_of, one_of_more}
use Rattle.eb3.specs.Terms.{Term}
use Rattle.eb3.specs.Sizes.{size, reach}
use Rattle.eb3.proofs.Laws.Sizes.{size_below_reach}
use Rattle.eb3.specs.Spelling.{words}
use Rattle.eb3.proofs.Laws.Spelling.{words_length}
use Rattle.eb3.specs.Bytes.{words_in, word_count}
use Rattle.eb3.specs.Blocks.{stream}
use Rattle.eb3.specs.Admission.{admission}
use Rattle.eb3.specs.RuleSets.{RuleSet}
use Rattle.eb3.specs.WellFormedness.{Form}
use Rattle.eb3.specs.Answers.{Answer, refused, answered, and_then}
use Rattle.eb3.proofs.Laws.Answers.{and_then_answered, answered_injective, not_both}
use Rattle.eb3.specs.TermReading.{given_term}
use Rattle.eb3.specs.Operations.{cells_needed, even, term_in}
use Rattle.eb3.proofs.Laws.Refusals.{Within, picked, and_then_within, or_refused_within, admission_within, refused_within}
use Rattle.measures.specs.declared.Limits.{Limits}
use Rattle.tables.specs.Layout.{label_count, function_count}
use Rattle.declarations.specs.Directory.{row_width}
use Rattle.declarations.specs.Declaring.{Declares}
use Rattle.cells.specs.Laws.Readying.{few}
use Rattle.steps.specs.Storing.{Ruled}
use Rattle.steps.specs.Laws.Ruled.{tables_few, ruled_there}
use Rattle.given.specs.declared.giving.Given.{Given}
use Rattle.admission.specs.Knowing.{Known}
use Rattle.given.specs.Giving.{checked_as, TermChecked, given_in, given_as, Described, GivenDone, found_term}
use Rattle.refusals.specs.declared.Refusal.{Refusal}
use Rattle.refusals.specs.Numbers.{number, RefusedBy}
use Rattle.refusals.specs.Laws.Numbers.{refusal_number, refused_by}

module _ (rules term words₀ : List ℕ) (n : ℕ) (words' T D ws : List ℕ) (decoded : words' ≡ stream rules ++ drop (254 * n) words₀) where
  pub given_refused : (k : Refusal) → admission rules ≡ refused (number k) → GivenDone rules term words₀ n (Err k) words' T D ws
  unfolding given_as and_then
  given_refused k e =
      let f : given_in rules term ≡ refused (number k) = ap (λ a. and_then a λ R. and_then (term_in R term) λ E. answered (R, E)) e in
      record { answer = ap Err (sym (refusal_number k)) ∙ sym (ap given_as f); decoded = decoded; described = λ R E g. absurd (not_both (number k) (R, E) (sym f ∙ g)) }

  module _ (l : Limits) (k : Known rules T D l) where
    abbrev R : RuleSet
    R = k.rule_set

    read_so : given_in rules term ≡ and_then (term_in R term) λ E. answered (R, E)
    unfolding and_then
    read_so = ap (λ a. and_then a λ Q. and_then (term_in Q term) λ E. answered (Q, E)) k.admitted_as

    as_checked : (c : ℕ) → c ≡ cells_needed R → (a : Answer Term) → checked_as R.edition.width c a ≡ given_as (and_then a λ E. answered (R, E))
    unfolding checked_as given_as and_then
    as_checked c e (refused j) = refl
    as_checked c e (answered E) = λ i. checked_as R.edition.width (e i) (answered E)

    described_so : TermChecked R l.cells term ws (checked_as R.edition.width l.cells (term_in R term)) → (Q : RuleSet) (E : Term) → given_in rules term ≡ answered (Q, E) → Described Q E (drop 2 (stream rules)) T D (take (word_count term) ws)
    described_so h Q E e =
        let p = and_then_answered (term_in R term) (λ F. answered (R, F)) (Q, E) (sym read_so ∙ e) in
        let q : ◌≡◌ {A = RuleSet × Term} (R, p.0) (Q, E) = answered_injective (R, p.0) (Q, E) p.2 in
        subst (λ (x : RuleSet × Term). Described x.0 x.1 (drop 2 (stream rules)) T D (take (word_count term) ws)) q
        (record { form = k.well.form; directory = k.directory; term = h.spelled p.0 p.1 })

    pub given_checked : (c : ℕ) (r : Result Given Refusal) → c ≡ l.cells → ((Q : RuleSet) → Form Q → Declares T Q → TermChecked Q c term ws r) → GivenDone rules term words₀ n r words' T D ws
    given_checked c r ec check =
        let h : TermChecked R c term ws r = check R k.well.form k.directory.declares in
        let cells_is : l.cells ≡ cells_needed R = ap (λ (x : Limits). x.cells) k.sizes in
        let g : TermChecked R l.cells term ws (checked_as R.edition.width l.cells (term_in R term)) =
        record { answer = refl; spelled = h.spelled } in
        record {
          answer = h.answer ∙ as_checked c (ec ∙ cells_is) (term_in R term) ∙ ap given_as (sym read_so);
          decoded = decoded;
          described = described_so g;
        }

-- ── what an answer says ──

refused_from : (a : Answer (RuleSet × Term)) (k : Refusal) → Err k ≡ given_as a → RefusedBy k a
unfolding given_as
refused_from (refused j) k e = record { code = j; is = refl; named = cc }
refused_from (answered p) k e = absurd (let z : ◌≡◌ {A = ℕ} 0 1 = cc in omega arith)

-- A rule set is refused by a number from 1 to 8, and a term by 10.
module _ (rules term : List ℕ) where
  more_within : (a : Answer RuleSet) → Within Why.of_admission a → Within Why.of_any a
  unfolding one_of all_of
  more_within (refused j) h = one_of_more Why.of_any Why.of_admission tt j h
  more_within (answered R) h = tt

  term_within : (R : RuleSet) → Within Why.of_any (term_in R term)
  unfolding one_of
  term_within R = picked (Within Why.of_any) (even term) _ _ (or_refused_within Why.of_any Why.term (given_term R (words_in term)) tt) tt

  given_within : Within Why.of_any (given_in rules term)
  given_within = and_then_within Why.of_any (admission rules) _ (more_within (admission rules) (admission_within rules)) (λ R.
      and_then_within Why.of_any (term_in R term) _ (term_within R) (λ E. tt))

-- The rule set and the term that an answer is about.
pub record Found (a : Answer (RuleSet × Term)) (c g : ℕ) : Type 0 where
  pub rule_set : RuleSet
  pub running_term : Term
  pub given_so : a ≡ answered (rule_set, running_term)
  pub cells_are : c ≡ cells_needed rule_set
  pub reach_is : g ≡ reach rule_set.edition.width running_term

found_from : (a : Answer (RuleSet × Term)) (c g : ℕ) → found_term c g ≡ given_as a → Found a c g
unfolding given_as
found_from (refused j) c g e = absurd (let z : ◌≡◌ {A = ℕ} 0 1 = cc in omega arith)
found_from (answered p) c g e =
    let q : ◌≡◌ {A = Given} (record { cells = c; reach = g }) (record { cells = cells_needed p.0; reach = reach p.0.edition.width p.1 }) = cc in
    record { rule_set = p.0; running_term = p.1; given_so = refl; cells_are = ap (λ x. x.cells) q; reach_is = ap (λ x. x.reach) q }

module _ (rules term words₀ : List ℕ) (n : ℕ) (r : Result Given Refusal) (words' T D ws : List ℕ) (d : GivenDone rules term words₀ n r words' T D ws) where
  pub told_refused : (k : Refusal) → r ≡ Err k → given_in rules term ≡ refused (number k)
  told_refused k e =
      let within = refused_within Why.of_any (given_in rules term) (given_within rules term) in
      refused_by k (given_in rules term) within (refused_from (given_in rules term) k (sym e ∙ d.answer))

  pub told_found : (c g : ℕ) → r ≡ found_term c g → Found (given_in rules term) c g
  told_found c g e = found_from (given_in rules term) c g (sym e ∙ d.answer)

-- ── what is described ──

module _ (R : RuleSet) (E : Term) (t T D s : List ℕ) (d : Described R E t T D s) where
  pub described_short : length s ≤ 8192
  described_short =
      let e : length (words R.edition.width E) ≡ size R.edition.width E = words_length R E d.term.running.form in
      let f : length s ≡ length (words R.edition.width E) = ap length d.term.words_are in
      omega (arith, e, f, size_below_reach R.edition.width E, d.term.running.reach_limit)

  pub described_few : (c : ℕ) → c ≡ cells_needed R → (length s ≤ 65535) × (c ≤ 1024) × (label_count T ≤ 64) × (function_count T ≤ 16)
  described_few c e =
      let b = tables_few R d.form t T D d.directory in
      (omega (arith, described_short), omega (arith, e, few R d.form T d.directory.declares), b.0, b.1)

  pub described_ruled : (w n c : ℕ) → w ≡ row_width (label_count T) → n ≡ function_count T → c ≡ cells_needed R → Ruled R t T D w n c
  described_ruled w n c ew en ec = ruled_there R d.form t T D d.directory w n c ew en ec
