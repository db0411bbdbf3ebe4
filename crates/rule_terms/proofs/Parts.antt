-- A case for each way that a check of a term's parts returns. The premises have the form of the facts known there, so that `search` finds them.
use Prim.Native.Nat.{ℕ}
use mathlib.Core.Path.{◌≡◌, refl, sym, ap, ◌∙◌}
use mathlib.Core.Bool.{Bool}
use mathlib.Core.List.{List}
use lib.ListN.{length, take}
use Rattle.eb3.specs.Sizes.{zero_mask}
use Rattle.eb3.specs.RuleSets.{RuleTerm, RuleSet, rule_sequence, rule_choice, rule_parallel}
use Rattle.eb3.specs.Measures.{sat, Measure, measure_term}
use Rattle.eb3.specs.Reading.{Read, refused, taken, Reader, giving, then, both}
use Rattle.eb3.specs.TermReading.{mask_of}
use Rattle.eb3.specs.RuleReading.{rule_mask_of}
use Rattle.words.specs.Checking.{checked, last_of, Checked}
use Rattle.words.specs.Ends.{Ends}
use Rattle.words.specs.Laws.Checking.{tail_here}
use Rattle.words.specs.Readings.{Taken, RefusedAs}
use Rattle.words.specs.Laws.Reading.{checked_refused, checked_taken, giving_refused_as, both_first_as, both_second_as, both_taken, same_refused}
use Rattle.measures.specs.declared.Weight.{Weight}
use Rattle.measures.specs.Weighing.{cap, measure, weight, joint_of}
use Rattle.tables.specs.Layout.{label_count}
use Rattle.tables.specs.Tables.{declared, callee}
use Rattle.tables.specs.Laws.Tables.{labels_length, mask_read}
use Rattle.rule_terms.specs.declared.Weighed.{Weighed}
use Rattle.rule_terms.specs.Weighed.{weighed, terms, answer, weighed_two, mask_if, copies_of, weighed_copies, Answer, found}
use Rattle.rule_terms.specs.Laws.Reading.{term_ends, rule_mask_ends}
use Rattle.rule_terms.specs.Laws.Weighed.{weighed_out, weighed_got, refused_in}
use Rattle.std.specs.Prelude.{Ok, Err}
use Rattle.refusals.specs.declared.Refusal.{Refusal}
use Rattle.measures.specs.declared.Joint.{Joint}
use Rattle.measures.specs.declared.Joint.TheVariants.{Sequence as InSequence, Choice as InChoice, Parallel as InParallel}
use Rattle.rule_terms.specs.declared.Quantifier.{Quantifier}
use Rattle.rule_terms.specs.declared.Quantifier.TheVariants.{Choice, Parallel}

-- What the answers of callees say of the readings.
pub got_term : (T Γ t : List ℕ) (n : ℕ) (v : Weight) (p : Answer) → p ≡ answer T (terms T Γ t) → p ≡ found n v
    → (g : Taken t n (terms T Γ t)) × (measure v ≡ measure_term (sat cap) (declared T) (callee T) g.value)
got_term T Γ t n v p e h = weighed_got (declared T) (callee T) t n v (terms T Γ t) (term_ends (declared T) Γ t) (sym h ∙ e)

pub no_term : (T Γ t : List ℕ) (k : Refusal) (p : Answer) → p ≡ answer T (terms T Γ t) → p ≡ Err k → RefusedAs k (terms T Γ t)
no_term T Γ t k p e h = weighed_out (declared T) (callee T) (terms T Γ t) k (sym h ∙ e)

-- The words after those read, as the code has them.
pub behind_got : {A B : Type 0} (f : Reader B) (t r : List ℕ) (n : ℕ) (s : Read A) (g : Taken t n s) → r ≡ last_of n t → f g.rest ≡ f r
behind_got f t r n s g l = ap f (sym g.words ∙ sym l)

pub refused_behind : {A B : Type 0} (f : Reader B) (t r : List ℕ) (n : ℕ) (s : Read A) (k : Refusal) (g : Taken t n s) → r ≡ last_of n t → RefusedAs k (f r) → RefusedAs k (f g.rest)
refused_behind f t r n s k g l h = same_refused _ _ k (behind_got f t r n s g l) h

-- ── two terms ──

module _ (T Γ t : List ℕ) (j : Joint) (p : Answer) (e : p ≡ answer T (terms T Γ t)) where
  pub two_first : (k : Refusal) → p ≡ Err k → Err k ≡ weighed_two (declared T) (callee T) j (both (terms T Γ) (terms T Γ) t)
  unfolding weighed_two
  two_first k h = let n = both_first_as (terms T Γ) (terms T Γ) t k (no_term T Γ t k p e h) in rw n.read (ap Err n.named)

  module _ (one : Weighed) (r : List ℕ) (q : Answer) (h : p ≡ Ok one) (l : r ≡ last_of one.left t) (f : q ≡ answer T (terms T Γ r)) where
    pub two_second : (k : Refusal) → q ≡ Err k → Err k ≡ weighed_two (declared T) (callee T) j (both (terms T Γ) (terms T Γ) t)
    unfolding weighed_two
    two_second k i =
        let g = (got_term T Γ t one.left one.weight p e h).0 in
        let n = both_second_as (terms T Γ) (terms T Γ) t g.value g.rest k g.read (refused_behind (terms T Γ) t r one.left _ k g l (no_term T Γ r k q f i)) in
        rw n.read (ap Err n.named)

    pub two_in : (m : ℕ) (w x : Weight) → q ≡ found m w → measure x ≡ joint_of j (measure one.weight) (measure w) → found m x ≡ weighed_two (declared T) (callee T) j (both (terms T Γ) (terms T Γ) t)
    unfolding weighed_two
    two_in m w x i d =
        let a = got_term T Γ t one.left one.weight p e h in
        let b = got_term T Γ r m w q f i in
        rw (both_taken (terms T Γ) (terms T Γ) t a.0.value a.0.rest b.0.value b.0.rest a.0.read (behind_got (terms T Γ) t r one.left _ a.0 l ∙ b.0.read))
        ((λ y. found (b.0.left y) (weight (d y))) ∙ (λ y. found (length b.0.rest) (weight (joint_of j (a.1 y) (b.1 y)))))

-- Two terms, one after the other, are a sequence or a choice.
module _ (R : RuleSet) (M : ℕ → Measure) where
  pub weighed_sequence : (s : Read (RuleTerm × RuleTerm)) → weighed_two R M InSequence s ≡ weighed R M (giving (λ p. rule_sequence p.0 p.1) s)
  unfolding weighed_two joint_of weighed giving measure_term
  weighed_sequence (refused k) = refl
  weighed_sequence (taken p u) = refl

  pub weighed_choice : (s : Read (RuleTerm × RuleTerm)) → weighed_two R M InChoice s ≡ weighed R M (giving (λ p. rule_choice p.0 p.1) s)
  unfolding weighed_two joint_of weighed giving measure_term
  weighed_choice (refused k) = refl
  weighed_choice (taken p u) = refl

-- ── a mask, then two terms ──

both_there : {A B : Type 0} (f : Reader A) (g : Reader B) (t : List ℕ) (a : A) (u : List ℕ) → f t ≡ taken a u → both f g t ≡ giving (λ b. (a, b)) (g u)
unfolding both then
both_there f g t a u e = rw e

sides_beside : (R : RuleSet) (M : ℕ → Measure) (Δ : List ℕ) (r : Read (RuleTerm × RuleTerm))
    → weighed_two R M (InParallel (zero_mask Δ)) r ≡ weighed R M (giving (λ (s : List ℕ × (RuleTerm × RuleTerm)). rule_parallel s.0 s.1.0 s.1.1) (giving (λ b. (Δ, b)) r))
unfolding weighed weighed_two joint_of giving measure_term
sides_beside R M Δ (refused k) = refl
sides_beside R M Δ (taken p u) = refl

module _ (T t : List ℕ) (b : ℕ) (p : Checked) (i : b ≡ label_count T) (e : p ≡ checked (mask_of 4 b t)) where
  as_declared : p ≡ checked (rule_mask_of (declared T) t)
  as_declared = e ∙ ap (λ n. checked (mask_of 4 n t)) (i ∙ sym (labels_length T))

  module _ (Γ : List ℕ) where
    abbrev parallels : Read RuleTerm
    parallels = giving (λ s. rule_parallel s.0 s.1.0 s.1.1) (both (rule_mask_of (declared T)) (both (terms T Γ) (terms T Γ)) t)

    pub parallel_none : (k : Refusal) → p ≡ Err k → Err k ≡ answer T parallels
    parallel_none k h = refused_in (declared T) (callee T) _ k (giving_refused_as _ _ k (both_first_as (rule_mask_of (declared T)) (both (terms T Γ) (terms T Γ)) t k (checked_refused (rule_mask_of (declared T) t) k (sym h ∙ as_declared))))

    pub parallel_in : (n : ℕ) (r : List ℕ) (q : Answer) (z : Bool) → p ≡ Ok n → r ≡ last_of n t → z ≡ zero_mask (take 4 t) → q ≡ weighed_two (declared T) (callee T) (InParallel z) (both (terms T Γ) (terms T Γ) r) → q ≡ answer T parallels
    parallel_in n r q z h l c f =
        let g : Taken t n (rule_mask_of (declared T) t) = checked_taken t n (rule_mask_of (declared T) t) (rule_mask_ends (declared T) t) (sym h ∙ as_declared) in
        let m : g.value ≡ take 4 t = mask_read 4 (length (declared T).labels) t g.value g.rest g.read in
        f ∙ ap (λ y. weighed_two (declared T) (callee T) (InParallel y) (both (terms T Γ) (terms T Γ) r)) (c ∙ ap zero_mask (sym m)) ∙ sides_beside (declared T) (callee T) g.value (both (terms T Γ) (terms T Γ) r)
        ∙ ap (λ y. answer T (giving (λ s. rule_parallel s.0 s.1.0 s.1.1) y))
        (ap (giving (λ s. (g.value, s))) (sym (behind_got (both (terms T Γ) (terms T Γ)) t r n _ g l)) ∙ sym (both_there (rule_mask_of (declared T)) (both (terms T Γ) (terms T Γ)) t g.value g.rest g.read))

-- ── a mask where there is one, then a term ──

pub mask_some : (T t : List ℕ) (w : Quantifier) (b : ℕ) (p : Checked) → w ≡ Parallel → b ≡ label_count T → p ≡ checked (mask_of 4 b t) → p ≡ checked (mask_if w (declared T) t)
unfolding mask_if
mask_some T t w b p h i e = as_declared T t b p i e ∙ rw h

pub mask_none : (T t : List ℕ) (w : Quantifier) → w ≡ Choice → Ok (length t) ≡ checked (mask_if w (declared T) t)
unfolding mask_if checked
mask_none T t w h = rw h

mask_if_ends : (w : Quantifier) (R : RuleSet) → Ends (mask_if w R)
unfolding mask_if
mask_if_ends Parallel R t = rule_mask_ends R t
mask_if_ends Choice R t = tail_here t

same_copies : (w : Quantifier) (z : Bool) (R : RuleSet) (c : ℕ) (m : Measure) (t Δ u : List ℕ) → mask_if w R t ≡ taken Δ u → z ≡ zero_mask (take 4 t) → copies_of w z c m ≡ copies_of w (zero_mask Δ) c m
unfolding mask_if copies_of
same_copies Parallel z R c m t Δ u e h = ap (λ y. copies_of Parallel y c m) (h ∙ ap zero_mask (sym (mask_read 4 (length R.labels) t Δ u e)))
same_copies Choice z R c m t Δ u e h = refl

module _ (T Γ t : List ℕ) (w : Quantifier) (c : ℕ) (p : Checked) (e : p ≡ checked (mask_if w (declared T) t)) where
  abbrev copies : Read (List ℕ × RuleTerm)
  copies = both (mask_if w (declared T)) (terms T Γ) t

  pub copies_none : (k : Refusal) → p ≡ Err k → Err k ≡ weighed_copies (declared T) (callee T) w c copies
  unfolding weighed_copies
  copies_none k h =
      let n = both_first_as (mask_if w (declared T)) (terms T Γ) t k (checked_refused (mask_if w (declared T) t) k (sym h ∙ e)) in
      rw n.read (ap Err n.named)

  module _ (n : ℕ) (r : List ℕ) (q : Answer) (h : p ≡ Ok n) (l : r ≡ last_of n t) (f : q ≡ answer T (terms T Γ r)) where
    got_mask : Taken t n (mask_if w (declared T) t)
    got_mask = checked_taken t n (mask_if w (declared T) t) (mask_if_ends w (declared T) t) (sym h ∙ e)

    pub copies_out : (k : Refusal) → q ≡ Err k → Err k ≡ weighed_copies (declared T) (callee T) w c copies
    unfolding weighed_copies
    copies_out k o =
        let g = got_mask in
        let m = both_second_as (mask_if w (declared T)) (terms T Γ) t g.value g.rest k g.read (refused_behind (terms T Γ) t r n _ k g l (no_term T Γ r k q f o)) in
        rw m.read (ap Err m.named)

    pub copies_in : (m : ℕ) (z : Bool) (v x : Weight) → q ≡ found m v → z ≡ zero_mask (take 4 t) → measure x ≡ copies_of w z c (measure v) → found m x ≡ weighed_copies (declared T) (callee T) w c copies
    unfolding weighed_copies
    copies_in m z v x o u d =
        let g = got_mask in
        let s = got_term T Γ r m v q f o in
        rw (both_taken (mask_if w (declared T)) (terms T Γ) t g.value g.rest s.0.value s.0.rest g.read (behind_got (terms T Γ) t r n _ g l ∙ s.0.read))
        ((λ j. found (s.0.left j) (weight ((d ∙ same_copies w z (declared T) c (measure v) t g.value g.rest g.read u) j))) ∙ (λ j. found (length s.0.rest) (weight (copies_of w (zero_mask g.value) c (s.1 j)))))
