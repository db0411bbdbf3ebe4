-- A case for each code of a term. The premises have the form of the facts known there, so that `search` finds them.
use Prim.Native.Nat.{ℕ, ◌≤◌, ◌<◌}
use mathlib.Core.Path.{◌≡◌, refl, sym, ap, ◌∙◌}
use mathlib.Core.List.{List}
use lib.ListN.{length, drop, get_or}
use native.Mathlib.Omega.{arith}
use native.Mathlib.Decide.{dec_le}
use borrow.Author.Tests.{lt-ltb, le-ltb}
use Rattle.eb3.specs.RuleSets.{RuleTerm, rule_internal}
use Rattle.eb3.specs.Measures.{sat, leaf, measure_term}
use Rattle.eb3.specs.Reading.{Read, both}
use Rattle.eb3.specs.RuleReading.{RuleKind, rule_kind, rule_by, rule_terms, read_rule_term}
use Rattle.words.specs.Laws.Checking.{nil_form}
use Rattle.words.specs.Laws.Reading.{handed_err}
use Rattle.codes.specs.declared.Due.TheVariants.{RuleTerm as DueTerm}
use Rattle.codes.specs.Sorts.{code_due}
use Rattle.codes.specs.Laws.Sorts.{no_rule_term}
use Rattle.codes.specs.Laws.Due.{code_taken, code_refused}
use Rattle.measures.specs.declared.Weight.{Weight}
use Rattle.measures.specs.Weighing.{cap, measure}
use Rattle.tables.specs.Tables.{declared, callee}
use Rattle.rule_terms.specs.Weighed.{weighed, terms, answer, weighed_two, Answer, found}
use Rattle.rule_terms.specs.Laws.Reading.{term_case}
use Rattle.rule_terms.specs.Laws.Weighed.{weighed_in}
use Rattle.rule_terms.proofs.Parts.{two_first, two_second, two_in, weighed_sequence, weighed_choice, parallel_none, parallel_in, copies_none, copies_out, copies_in}
use Rattle.rule_terms.proofs.Binders.{guard_none, guard_out, guard_in, quantified_none, quantified_in}
use Rattle.measures.specs.declared.Joint.TheVariants.{Sequence as InSequence, Choice as InChoice}
use Rattle.std.specs.Prelude.{Ok, Err, IsErr, IsErrAnd}
use Rattle.refusals.specs.declared.Refusal.{Refusal}
use Rattle.refusals.specs.declared.Refusal.TheVariants.{Form}
use Rattle.refusals.specs.Numbers.{refusal}

term_none : (T Γ s : List ℕ) → length s ≡ 0 → Err Form ≡ answer T (terms T Γ s)
unfolding read_rule_term rule_terms weighed refusal
term_none T Γ s h = rw (nil_form s h)

term_wrong : (T Γ s : List ℕ) → (length s ≡ 0 → ⊥) → rule_kind Γ (get_or s 0 0) ≡ RuleKind.wrong → Err Form ≡ answer T (terms T Γ s)
unfolding weighed refusal
term_wrong T Γ s h e = sym (ap (answer T) (term_case (declared T) Γ s RuleKind.wrong h e))

-- No word, or a code that may not be there.
pub term_refused : (T Γ s : List ℕ) (k : Refusal) (r : Answer) → IsErr r × IsErrAnd r (λ e. e ≡ k) → Err k ≡ code_due DueTerm s 0 → r ≡ answer T (terms T Γ s)
term_refused T Γ s k r h e =
    let o = code_refused DueTerm s 0 k e in
    handed_err r k h ∙ ap Err o.form ∙ go (dec_le (length s) 0) o.outside
  where
    go : Dec (length s ≤ 0) → (0 < length s → (20 ≤ get_or s 0 0) × (get_or s 0 0 ≤ 29) → ⊥) → Err Form ≡ answer T (terms T Γ s)
    go (yes l) o = term_none T Γ s (omega arith)
    go (no l) o = term_wrong T Γ s (λ z. omega arith) (no_rule_term Γ (get_or s 0 0) (o (omega arith)))

-- None of the codes that a match tests one by one.
abbrev Other : ℕ → Type 0
Other w = ((((((((Unit {0} × (w ≡ 20 → ⊥)) × (w ≡ 21 → ⊥)) × (w ≡ 22 → ⊥)) × (w ≡ 23 → ⊥)) × (w ≡ 25 → ⊥)) × (w ≡ 26 → ⊥)) × (w ≡ 27 → ⊥)) × (w ≡ 28 → ⊥))

-- The code that is left is a call's.
last_code : (w : ℕ) → (20 ≤ w) × (w ≤ 29) → (w ≡ 24 → ⊥) → Other w → w ≡ 29
last_code w r n o =
    let a : 22 ≤ w = omega (arith, r.0, o.0.0.0.0.0.0.0.1, o.0.0.0.0.0.0.1) in
    let b : 25 ≤ w = omega (arith, a, o.0.0.0.0.0.1, o.0.0.0.0.1, n) in
    let c : 27 ≤ w = omega (arith, b, o.0.0.0.1, o.0.0.1) in
    omega (arith, c, r.1, o.0.1, o.1)

-- s is the words, w the code that the code found at the front, t the words after it
module _ (T Γ s t : List ℕ) (w : ℕ) (is : Ok w ≡ code_due DueTerm s 0) (q : t ≡ drop 1 s) where
  some : length s ≡ 0 → ⊥
  some z = let l : 0 < length s = (code_taken DueTerm s 0 w is).there in omega arith

  code : get_or s 0 0 ≡ w
  code = (code_taken DueTerm s 0 w is).code

  abbrev by : RuleKind → Read RuleTerm
  by k = rule_by (declared T) (read_rule_term (declared T)) Γ k t

  by_kind : (k : RuleKind) (p : Answer) → rule_kind Γ w ≡ k → p ≡ answer T (by k) → p ≡ answer T (terms T Γ s)
  by_kind k p e f = f ∙ ap (λ u. answer T (rule_by (declared T) (read_rule_term (declared T)) Γ k u)) q ∙ sym (ap (answer T) (term_case (declared T) Γ s k some (ap (rule_kind Γ) code ∙ e)))

  by_code : (c : ℕ) (p : Answer) → w ≡ c → p ≡ answer T (by (rule_kind Γ c)) → p ≡ answer T (terms T Γ s)
  by_code c p e f = by_kind (rule_kind Γ c) p (ap (rule_kind Γ) e) f

  by_wrong : rule_kind Γ w ≡ RuleKind.wrong → Err Form ≡ answer T (terms T Γ s)
  by_wrong e = term_wrong T Γ s some (ap (rule_kind Γ) code ∙ e)

  pub term_internal : (x : Weight) → w ≡ 20 → measure x ≡ leaf (sat cap) 1 → found (length t) x ≡ answer T (terms T Γ s)
  unfolding measure_term
  term_internal x e f = by_code 20 _ e (weighed_in (declared T) (callee T) (length t) x _ rule_internal t refl refl f)

  module _ (p : Answer) where
    pub term_action : w ≡ 21 → p ≡ answer T (by RuleKind.action) → p ≡ answer T (terms T Γ s)
    term_action e f = by_code 21 p e f

    pub term_sequence : w ≡ 22 → p ≡ weighed_two (declared T) (callee T) InSequence (both (terms T Γ) (terms T Γ) t) → p ≡ answer T (terms T Γ s)
    term_sequence e f = by_code 22 p e (f ∙ weighed_sequence (declared T) (callee T) (both (terms T Γ) (terms T Γ) t))

    pub term_choice : w ≡ 23 → p ≡ weighed_two (declared T) (callee T) InChoice (both (terms T Γ) (terms T Γ) t) → p ≡ answer T (terms T Γ s)
    term_choice e f = by_code 23 p e (f ∙ weighed_choice (declared T) (callee T) (both (terms T Γ) (terms T Γ) t))

    pub term_parallel : w ≡ 25 → p ≡ answer T (by RuleKind.parallel) → p ≡ answer T (terms T Γ s)
    term_parallel e f = by_code 25 p e f

    pub term_guard : w ≡ 26 → p ≡ answer T (by RuleKind.guard) → p ≡ answer T (terms T Γ s)
    term_guard e f = by_code 26 p e f

    pub term_over : w ≡ 27 → length Γ < 8 → p ≡ answer T (by RuleKind.choice_quantifier) → p ≡ answer T (terms T Γ s)
    term_over e l f = by_kind RuleKind.choice_quantifier p (ap (rule_kind Γ) e ∙ rw (lt-ltb (length Γ) 8 l)) f

    pub term_many : w ≡ 28 → length Γ < 8 → p ≡ answer T (by RuleKind.parallel_quantifier) → p ≡ answer T (terms T Γ s)
    term_many e l f = by_kind RuleKind.parallel_quantifier p (ap (rule_kind Γ) e ∙ rw (lt-ltb (length Γ) 8 l)) f

    pub term_call : (get_or s 0 0 ≡ 24 → ⊥) → Other w → p ≡ answer T (by RuleKind.process_call) → p ≡ answer T (terms T Γ s)
    term_call n o f = by_code 29 p (last_code w (code_taken DueTerm s 0 w is).sort (λ e. n (code ∙ e)) o) f

  pub term_over_full : w ≡ 27 → 8 ≤ length Γ → Err Form ≡ answer T (terms T Γ s)
  term_over_full e l = by_wrong (ap (rule_kind Γ) e ∙ rw (le-ltb (length Γ) 8 l))

  pub term_many_full : w ≡ 28 → 8 ≤ length Γ → Err Form ≡ answer T (terms T Γ s)
  term_many_full e l = by_wrong (ap (rule_kind Γ) e ∙ rw (le-ltb (length Γ) 8 l))

pub ruleset codes = (term_refused, term_internal, term_action, term_sequence, term_choice, term_parallel, term_guard, term_over, term_many, term_over_full, term_many_full, term_call)

pub ruleset parts = (two_first, two_second, two_in, parallel_none, parallel_in, copies_none, copies_out, copies_in)

pub ruleset binders = (guard_none, guard_out, guard_in, quantified_none, quantified_in)
