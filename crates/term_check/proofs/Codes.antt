-- A case for each code of a running term. The premises have the form of the facts known there, so that `search` finds them.
-- Document 01, "Unfolding, size and breadth"; refusal 10.
use Prim.Native.Nat.{ℕ, ◌≤◌, ◌<◌}
use native.Mathlib.Omega.{arith}
use mathlib.Core.Path.{◌≡◌, refl, sym, ap, ◌∙◌}
use mathlib.Core.List.{List}
use lib.ListN.{length, drop, get_or}
use native.Mathlib.Decide.{dec_le}
use Rattle.std.specs.Prelude.{Option, None, Ok, Err}
use Rattle.std.proofs.Common.{inl, inr}
use Rattle.refusals.specs.declared.Refusal.{Refusal}
use Rattle.codes.specs.declared.Due.TheVariants.{RunningTerm}
use Rattle.codes.specs.Sorts.{code_due}
use Rattle.codes.specs.Laws.Sorts.{InRange, no_running_term}
use Rattle.codes.specs.Laws.Due.{code_taken, code_refused}
use Rattle.eb3.specs.Terms.{Term, Star, Sequence, Choice}
use Rattle.eb3.specs.Measures.{sat, leaf, nothing, measure_running}
use Rattle.eb3.specs.Reading.{Read, refused, taken, giving, both}
use Rattle.eb3.specs.TermReading.{TermKind, term_kind, action_of, term_by, terms, read_term}
use Rattle.words.specs.Laws.Checking.{nil_form}
use Rattle.measures.specs.declared.Weight.{Weight}
use Rattle.measures.specs.Weighing.{cap, measure, joint_of}
use Rattle.tables.specs.Tables.{declared}
use Rattle.measures.specs.declared.Joint.TheVariants as Joint
use Rattle.term_check.specs.Given.{Weighed, answer_of, weighed_running}
use Rattle.term_check.specs.Answers.{weighed_pair}
use Rattle.term_check.specs.Laws.Reading.{term_case}
use Rattle.term_check.proofs.Parts.{reads}

term_none : (T s : List ℕ) → length s ≡ 0 → None ≡ weighed_running (read_term (declared T) s)
unfolding read_term terms weighed_running
term_none T s h = rw (nil_form s h)

weighed_sequence : (s : Read (Term × Term)) → weighed_pair Joint.Sequence s ≡ weighed_running (giving (λ p. Sequence p.0 p.1) s)
unfolding weighed_pair weighed_running giving measure_running joint_of
weighed_sequence (refused k) = refl
weighed_sequence (taken s t) = refl

weighed_choice : (s : Read (Term × Term)) → weighed_pair Joint.Choice s ≡ weighed_running (giving (λ p. Choice p.0 p.1) s)
unfolding weighed_pair weighed_running giving measure_running joint_of
weighed_choice (refused k) = refl
weighed_choice (taken s t) = refl

term_wrong : (T s : List ℕ) → (length s ≡ 0 → ⊥) → term_kind (get_or s 0 0) ≡ TermKind.wrong → None ≡ weighed_running (read_term (declared T) s)
unfolding weighed_running
term_wrong T s h e = sym (ap weighed_running (term_case (declared T) s TermKind.wrong h e))

-- No word, or a code that may not be there.
pub term_refused : (T s : List ℕ) (k : Refusal) → Err k ≡ code_due RunningTerm s 0 → None ≡ weighed_running (read_term (declared T) s)
term_refused T s k e = go (dec_le (length s) 0) (code_refused RunningTerm s 0 k e).outside
  where
    go : Dec (length s ≤ 0) → (0 < length s → InRange RunningTerm (get_or s 0 0) → ⊥) → None ≡ weighed_running (read_term (declared T) s)
    go (yes l) o = term_none T s (omega arith)
    go (no l) o = term_wrong T s (λ z. omega arith) (no_running_term (get_or s 0 0) (o (omega arith)))

-- None of the codes that a match tests one by one.
abbrev Other : ℕ → Type 0
Other w = (((((((Unit {0} × (w ≡ 20 → ⊥)) × (w ≡ 21 → ⊥)) × (w ≡ 22 → ⊥)) × (w ≡ 23 → ⊥)) × (w ≡ 24 → ⊥)) × (w ≡ 25 → ⊥)) × (w ≡ 26 → ⊥))

-- The code that is left is that of done.
last_code : (w : ℕ) → InRange RunningTerm w → Other w → w ≡ 30
last_code w (inr e) o = e
last_code w (inl r) o =
    let a : 22 ≤ w = omega (arith, r.0, o.0.0.0.0.0.0.1, o.0.0.0.0.0.1) in
    let b : 24 ≤ w = omega (arith, a, o.0.0.0.0.1, o.0.0.0.1) in
    let c : 26 ≤ w = omega (arith, b, o.0.0.1, o.0.1) in
    absurd (let z : ⊥ = omega (arith, c, r.1, o.1) in z)

-- s is the words, w the code that the code found at the front, t the words after it
module _ (T s t : List ℕ) (w : ℕ) (is : Ok w ≡ code_due RunningTerm s 0) (q : t ≡ drop 1 s) where
  some : length s ≡ 0 → ⊥
  some z = let l : 0 < length s = (code_taken RunningTerm s 0 w is).there in omega arith

  code : get_or s 0 0 ≡ w
  code = (code_taken RunningTerm s 0 w is).code

  by_kind : (k : TermKind) (x : Option Weighed) → term_kind w ≡ k
      → x ≡ weighed_running (term_by (declared T) (read_term (declared T)) k t) → x ≡ weighed_running (read_term (declared T) s)
  by_kind k x e f = f ∙ ap (λ u. weighed_running (term_by (declared T) (read_term (declared T)) k u)) q ∙ sym (ap weighed_running (term_case (declared T) s k some (ap term_kind code ∙ e)))

  module _ (x : Option Weighed) where
    pub term_internal : (v : Weight) → w ≡ 20 → measure v ≡ leaf (sat cap) 1
        → x ≡ answer_of (length t) (measure v) → x ≡ weighed_running (read_term (declared T) s)
    unfolding weighed_running measure_running
    term_internal v e f g = by_kind TermKind.internal_step x (ap term_kind e) (g ∙ (λ j. answer_of (length t) (f j)))

    pub term_done : (v : Weight) → Other w → measure v ≡ nothing (sat cap)
        → x ≡ answer_of (length t) (measure v) → x ≡ weighed_running (read_term (declared T) s)
    unfolding weighed_running measure_running
    term_done v o f g = by_kind TermKind.done x (ap term_kind (last_code w (code_taken RunningTerm s 0 w is).sort o)) (g ∙ (λ j. answer_of (length t) (f j)))

    pub term_action : w ≡ 21 → x ≡ weighed_running (action_of (declared T) t) → x ≡ weighed_running (read_term (declared T) s)
    term_action e f = by_kind TermKind.action x (ap term_kind e) f

    pub term_sequence : w ≡ 22 → x ≡ weighed_pair Joint.Sequence (both (read_term (declared T)) (read_term (declared T)) t) → x ≡ weighed_running (read_term (declared T) s)
    term_sequence e f = by_kind (TermKind.pair Sequence) x (ap term_kind e) (f ∙ weighed_sequence (both (reads T) (reads T) t))

    pub term_choice : w ≡ 23 → x ≡ weighed_pair Joint.Choice (both (read_term (declared T)) (read_term (declared T)) t) → x ≡ weighed_running (read_term (declared T) s)
    term_choice e f = by_kind (TermKind.pair Choice) x (ap term_kind e) (f ∙ weighed_choice (both (reads T) (reads T) t))

    pub term_star : w ≡ 24 → x ≡ weighed_running (giving Star (read_term (declared T) t)) → x ≡ weighed_running (read_term (declared T) s)
    term_star e f = by_kind TermKind.star x (ap term_kind e) f

    pub term_parallel : w ≡ 25 → x ≡ weighed_running (term_by (declared T) (read_term (declared T)) TermKind.parallel t) → x ≡ weighed_running (read_term (declared T) s)
    term_parallel e f = by_kind TermKind.parallel x (ap term_kind e) f

    pub term_guard : w ≡ 26 → x ≡ weighed_running (term_by (declared T) (read_term (declared T)) TermKind.guard t) → x ≡ weighed_running (read_term (declared T) s)
    term_guard e f = by_kind TermKind.guard x (ap term_kind e) f

pub ruleset codes = (term_refused, term_internal, term_done, term_action, term_sequence, term_choice, term_star, term_parallel, term_guard)
