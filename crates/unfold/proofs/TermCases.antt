-- A case for each way that the parts of the cycle return. The premises have the form of the facts known there.
-- Document 01, "Unfolding, size and breadth".
use mathlib.Core.Path.{◌≡◌, refl, sym, ap, ◌∙◌, subst}
use mathlib.Core.List.{List, [], ◌∷◌, ◌++◌}
use Prim.Native.Nat.{ℕ, suc, ◌+◌, ◌-◌, ◌*◌, ◌≤◌, ◌<◌}
use native.Mathlib.Numerals.{add-one}
use native.Mathlib.Omega.{arith}
use lib.ListN.{length, take, drop, get_or, set, length-append}
use Rattle.std.proofs.lemmas.List.{length-take, length-set, take-take, take-set-le, take_at, take_more_set}
use borrow.Author.Tests.{ne_eqb}
use Rattle.eb3.specs.RuleSets.{domain_size}
use Rattle.eb3.specs.RuleSpelling.{rule_words}
use Rattle.words.specs.Checking.{last_of}
use Rattle.words.specs.Laws.Checking.{nil_form}
use Rattle.tables.specs.Layout.{process_place, body_at}
use Rattle.tables.specs.Tables.{from, row, declared}
use Rattle.std.specs.Prelude.{Option, Some, None, ⊤}
use Rattle.unfold.specs.declared.writer.Writer.{Writer}
use Rattle.unfold.specs.Unfolded.{Unfolding}
use Rattle.unfold.specs.Puts.{Puts, Heads, Exactly, Then, Putting}
use Rattle.unfold.specs.Laws.Puts.{puts_as, puts_none, puts_lost, then_last, head_none, head_some, head_fail, head_last, putting_fail, putting_next, putting_last, putting_start}
use Rattle.unfold.specs.Saying.{Unfolds, Performs, Conditions, Guards, Stars, TwoTerms, Copy, Headed, Copies, Joins, Overs, argument_at, Body, Enters, Calls}
use Rattle.unfold.specs.Laws.Saying.{where_in, term_puts, puts_term}
use Rattle.unfold.proofs.RowCases.{last_size}
use Rattle.unfold.proofs.Shapes.{Shape, shape}

-- ── two terms ──

module _ (t T : List ℕ) (n i : ℕ) (σ : List ℕ) (x y : Writer) where
  -- a term leaves no more words than it found
  pub two_stray : (left : ℕ) → Unfolding t T n i σ x y (Some left) → n < left → Puts (TwoTerms t T n i σ) x y None
  two_stray left p h =
      puts_none _ x y
      (λ ws rest s.
      let u = s.one in
      let d = p.unfolded u.rules u.domains u.term s.between u.ready u.there in
      omega (arith, d.left_is, ap length u.there.spelled, length-append (rule_words u.rules.edition.width u.term) s.between, last_size n t (last_of n t) refl))
      p.same_buffer p.same_length

  pub two_put : (left : ℕ) (z : Writer) (r : Option ℕ) → Unfolding t T n i σ x y (Some left) → Unfolding t T left i σ y z r → Puts (TwoTerms t T n i σ) x z r
  two_put left z r p q = then_last _ _ x y left z r (term_puts t T n i σ x y (Some left) p) (term_puts t T left i σ y z r q)

-- ── a head, and two terms ──

-- The code and the mask's size are those that the contract names.
module _ (t T : List ℕ) (n i : ℕ) (σ : List ℕ) (C K k : ℕ) (is_k : k ≡ K) (s : List ℕ) (is_s : s ≡ last_of n t) (x : Writer) where
  module _ (c : ℕ) (is_c : c ≡ C) (y : Writer) where
    head_is : (r : Option ⊤) → Heads (c ∷ take k s) x y r → Heads (C ∷ take K (last_of n t)) x y r
    head_is r p = subst (λ h. Heads h x y r) (λ j. is_c j ∷ take (is_k j) (is_s j)) p

    pub joined_put : (u : ⊤) (z : Writer) (r : Option ℕ) → Heads (c ∷ take k s) x y (Some u) → Puts (TwoTerms t T (length s - k) i σ) y z r → Puts (Joins t T n i σ C K) x z r
    joined_put u z r p q = where_in _ _ x z r (head_last _ _ (λ m. TwoTerms t T m i σ) x y u z r (head_is (Some u) p) (subst (λ j. Puts (TwoTerms t T j i σ) y z r) (λ j. length (is_s j) - is_k j) q))

-- ── stars and guards ──

module _ (t T : List ℕ) (n i : ℕ) (σ : List ℕ) (x y : Writer) where
  pub star_put : (u : ⊤) (z : Writer) (r : Option ℕ) → Heads (24 ∷ []) x y (Some u) → Unfolding t T n i σ y z r → Puts (Stars t T n i σ) x z r
  star_put u z r p q = head_last _ n (λ m. Unfolds t T m i σ) x y u z r p (term_puts t T n i σ y z r q)

  pub guard_put : (left : ℕ) (z : Writer) (r : Option ℕ) → Puts (Conditions t T n σ) x y (Some left) → Unfolding t T left i σ y z r → Puts (Guards t T n i σ) x z r
  guard_put left z r p q = then_last _ _ x y left z r p (term_puts t T left i σ y z r q)

-- ── copies ──

-- An array begins with the values of the variables, and has room for an element's after them.
abbrev pub Begins : List ℕ → List ℕ → Type 0
Begins σ more = (length σ < length more) × (take (length σ) more ≡ σ)

pub values_start : (σ more : List ℕ) (e : ℕ) → take (length σ + 1) more ≡ σ ++ (e ∷ []) → Begins σ more
values_start σ more e h = (
  omega (arith, ap length h, length-take (length σ + 1) more, length-append σ (e ∷ [])),
  sym (take-take (length σ) (length σ + 1) more (omega arith)) ∙ ap (take (length σ)) h ∙ take_at σ (e ∷ []) (length σ) refl,
)

pub values_kept : (σ more : List ℕ) (e : ℕ) → Begins σ more → Begins σ (set more (length σ) e)
values_kept σ more e h = (omega (arith, h.0, length-set more (length σ) e), take-set-le (length σ) more (length σ) e (omega arith) ∙ h.1)

module _ (t T : List ℕ) (n i : ℕ) (σ : List ℕ) where
  pub copy_put : (e : ℕ) (vs : List ℕ) (x y : Writer) (r : Option ℕ) → take (length σ + 1) vs ≡ σ ++ (e ∷ []) → Unfolding t T n i (take (length σ + 1) vs) x y r → Puts (Copy t T n i σ e) x y r
  copy_put e vs x y r h u = term_puts t T n i (σ ++ (e ∷ [])) x y r (subst (λ v. Unfolding t T n i v x y r) h u)

  pub copied : (e : ℕ) (more : List ℕ) (x y : Writer) (r : Option ℕ) → Begins σ more → Unfolding t T n i (take (length σ + 1) (set more (length σ) e)) x y r → Puts (Copy t T n i σ e) x y r
  copied e more x y r h u = copy_put e (set more (length σ) e) x y r (take_more_set more (length σ) e h.0 ∙ ap (λ v. v ++ (e ∷ [])) h.1) u

  module _ (h : List ℕ) (size : ℕ) where
    abbrev All : List ℕ → List ℕ → Type 0
    All = Copies t T n i σ h 0 (size - 1)

    pub copies_start : (x : Writer) → Putting All (Copies t T n i σ h 0 (size - 1 - 0)) x x
    copies_start x = putting_start All (Copies t T n i σ h 0 (size - 1 - 0)) x (λ ws rest s. subst (λ k. Copies t T n i σ h 0 k ws rest) (let z : size - 1 ≡ size - 1 - 0 = omega arith in z) s)

    module _ (e : ℕ) (x y : Writer) (p : Putting All (Copies t T n i σ h e (size - 1 - e)) x y) where
      module _ (more : e + 1 < size) (z : Writer) (g : List ℕ) (is_h : g ≡ h) where
        step : (ws rest : List ℕ) → Copies t T n i σ h e (size - 1 - e) ws rest → Then (Headed t T n i σ h e) (λ m. Copies t T n i σ h (e + 1) (size - 1 - (e + 1))) ws rest
        unfolding Copies
        step ws rest s =
            let l : size - 1 - e ≡ suc (size - 1 - (e + 1)) = omega arith in
            subst (λ f. Then (Headed t T n i σ h e) (λ m. Copies t T n i σ h f (size - 1 - (e + 1))) ws rest) (sym (add-one e)) (subst (λ k. Copies t T n i σ h e k ws rest) l s)

        pub copies_full : (r : Option ℕ) → r ≡ None → Heads g y z None → Puts All x z r
        copies_full r e' q = puts_lost _ x z r e' (putting_fail _ _ x y p _ z _ step (head_fail h n _ y z (subst (λ v. Heads v y z None) is_h q)))

        module _ (u : ⊤) (q : Heads g y z (Some u)) (z' : Writer) where
          headed : (r : Option ℕ) → Puts (Copy t T n i σ e) z z' r → Puts (Headed t T n i σ h e) y z' r
          headed r k = head_last h n (λ m. Unfolds t T m i (σ ++ (e ∷ []))) y z u z' r (subst (λ v. Heads v y z (Some u)) is_h q) k

          pub copies_lost : (r : Option ℕ) → r ≡ None → Puts (Copy t T n i σ e) z z' None → Puts All x z' r
          copies_lost r e' k = puts_lost _ x z' r e' (putting_fail _ _ x y p _ z' _ step (headed None k))

          pub copies_next : (left : ℕ) → Puts (Copy t T n i σ e) z z' (Some left) → Putting All (Copies t T n i σ h (e + 1) (size - 1 - (e + 1))) x z'
          copies_next left k = putting_next _ _ x y p _ z' (λ m. Copies t T n i σ h (e + 1) (size - 1 - (e + 1))) left step (headed (Some left) k)

      -- v is the last element
      pub copies_last : (v : ℕ) (z : Writer) (r : Option ℕ) → v ≡ e → size ≤ v + 1 → Puts (Copy t T n i σ v) y z r → Puts All x z r
      unfolding Copies
      copies_last v z r same l q = putting_last _ _ x y p (Copy t T n i σ v) z r last q
        where
          last : (ws rest : List ℕ) → Copies t T n i σ h e (size - 1 - e) ws rest → Copy t T n i σ v ws rest
          last ws rest s = subst (λ u. Copy t T n i σ u ws rest) (sym same) (subst (λ k. Copies t T n i σ h e k ws rest) (let k : size - 1 - e ≡ 0 = omega arith in k) s)

module _ (t T : List ℕ) (n i : ℕ) (σ : List ℕ) (C K k : ℕ) (is_k : k ≡ K) (s : List ℕ) (is_s : s ≡ last_of n t) (x : Writer) where
  module _ (d size : ℕ) (is_d : d ≡ get_or s 0 0) (is_size : size ≡ domain_size (declared T) d) where
    size_is : size ≡ domain_size (declared T) (get_or (last_of n t) 0 0)
    size_is = is_size ∙ ap (λ j. domain_size (declared T) j) (is_d ∙ ap (λ u. get_or u 0 0) is_s)

    pub over_put : (y : Writer) (r : Option ℕ) → Puts (Copies t T (length s - (1 + k)) i σ (C ∷ take (1 + k - 1) (drop 1 s)) 0 (size - 1)) x y r → Puts (Overs t T n i σ C K) x y r
    over_put y r p =
        let l : 1 + k - 1 ≡ K = omega arith in
        where_in _ _ x y r (subst (λ S. Puts S x y r) (λ z. Copies t T (length (is_s z) - (1 + is_k z)) i σ (C ∷ take (l z) (drop 1 (is_s z))) 0 (size_is z - 1)) p)

-- ── calls ──

module _ (t T : List ℕ) (n p : ℕ) (σ s ds : List ℕ) (x : Writer) (is_s : s ≡ last_of n t) (is_row : ds ≡ row T (process_place p)) where
  -- the body is read where the tables say that it is
  module _ (vs : List ℕ) (y : Writer) (e start : ℕ) (f : vs ≡ from 0 (length ds) (argument_at σ s)) (g : e ≡ body_at T p) (h : start ≡ e) where
    values_is : from 0 (length (row T (process_place p))) (argument_at σ (last_of n t)) ≡ vs
    values_is = sym (f ∙ (λ j. from 0 (length (is_row j)) (argument_at σ (is_s j))))

    unfolds_is : (ws rest : List ℕ) (w : Body t T n p σ (length (row T (process_place p))) ws rest) → Unfolds t T start p vs ws w.behind
    unfolds_is ws rest w = subst (λ k. Unfolds t T k p vs ws w.behind) (sym (h ∙ g)) (subst (λ v. Unfolds t T (body_at T p) p v ws w.behind) values_is w.unfolds)

    left_same : length s - 2 * length ds ≡ length (last_of n t) - 2 * length (row T (process_place p))
    left_same = λ j. length (is_s j) - 2 * length (is_row j)

    pub body_put : (left : ℕ) → Unfolding t T start p vs x y (Some left) → Puts (Enters t T n p σ) x y (Some (length s - 2 * length ds))
    body_put left u =
        where_in _ _ x y _ (record {
          same_buffer = u.same_buffer;
          same_length = u.same_length;
          put = λ ws rest w. let d = (term_puts t T start p vs x y (Some left) u).put ws w.behind (unfolds_is ws rest w) in record { ends = d.ends; left_is = left_same ∙ w.same_left; written_there = d.written_there };
        })

-- ── a term by its code ──

module _ (t T : List ℕ) (n i : ℕ) (σ s : List ℕ) (is_s : s ≡ last_of n t) (x y : Writer) (r : Option ℕ) where
  by_code : (c : ℕ) (S : List ℕ → List ℕ → Type 0) → get_or s 0 0 ≡ c → ((ws rest : List ℕ) → Shape t T (length s - 1) i σ c ws rest → S ws rest) → Puts S x y r → Unfolding t T n i σ x y r
  by_code c S e f p =
      puts_term t T n i σ x y r
      (puts_as (Unfolds t T n i σ) S x y r
      (λ ws rest u. f ws rest (subst (λ k. Shape t T (length s - 1) i σ k ws rest) e (subst (λ l. Shape t T (length l - 1) i σ (get_or l 0 0) ws rest) (sym is_s) (shape t T n i σ ws rest u)))) p)

  pub term_internal : get_or s 0 0 ≡ 20 → Puts (Exactly (20 ∷ []) (length s - 1)) x y r → Unfolding t T n i σ x y r
  term_internal e p = by_code 20 _ e (λ ws rest h. h) p

  pub term_action : get_or s 0 0 ≡ 21 → Puts (Performs t T (length s - 1) σ) x y r → Unfolding t T n i σ x y r
  term_action e p = by_code 21 _ e (λ ws rest h. h) p

  pub term_sequence : get_or s 0 0 ≡ 22 → Puts (Joins t T (length s - 1) i σ 22 0) x y r → Unfolding t T n i σ x y r
  term_sequence e p = by_code 22 _ e (λ ws rest h. h) p

  pub term_choice : get_or s 0 0 ≡ 23 → Puts (Joins t T (length s - 1) i σ 23 0) x y r → Unfolding t T n i σ x y r
  term_choice e p = by_code 23 _ e (λ ws rest h. h) p

  pub term_star : get_or s 0 0 ≡ 24 → Puts (Stars t T (length s - 1) i σ) x y r → Unfolding t T n i σ x y r
  term_star e p = by_code 24 _ e (λ ws rest h. h) p

  pub term_parallel : get_or s 0 0 ≡ 25 → Puts (Joins t T (length s - 1) i σ 25 4) x y r → Unfolding t T n i σ x y r
  term_parallel e p = by_code 25 _ e (λ ws rest h. h) p

  pub term_guard : get_or s 0 0 ≡ 26 → Puts (Guards t T (length s - 1) i σ) x y r → Unfolding t T n i σ x y r
  term_guard e p = by_code 26 _ e (λ ws rest h. h) p

  pub term_over : get_or s 0 0 ≡ 27 → Puts (Overs t T (length s - 1) i σ 23 0) x y r → Unfolding t T n i σ x y r
  term_over e p = by_code 27 _ e (λ ws rest h. h) p

  pub term_many : get_or s 0 0 ≡ 28 → Puts (Overs t T (length s - 1) i σ 25 4) x y r → Unfolding t T n i σ x y r
  term_many e p = by_code 28 _ e (λ ws rest h. h) p

  pub term_call : get_or s 0 0 ≡ 29 → Puts (Calls t T (length s - 1) i σ) x y r → Unfolding t T n i σ x y r
  term_call e p = by_code 29 _ e (λ ws rest h. h) p

module _ (t T : List ℕ) (n i : ℕ) (σ s : List ℕ) (is_s : s ≡ last_of n t) (x : Writer) where
  pub term_none : length s ≡ 0 → Unfolding t T n i σ x x None
  term_none h = by_code t T n i σ s is_s x x None 0 (λ ws rest. ⊥) (ap (λ l. get_or l 0 0) (nil_form s h)) (λ ws rest z. z) (puts_none (λ ws rest. ⊥) x x (λ ws rest z. absurd z) refl refl)

  pub term_other : (((((((((Unit {0} × (get_or s 0 0 ≡ 20 → ⊥)) × (get_or s 0 0 ≡ 21 → ⊥)) × (get_or s 0 0 ≡ 22 → ⊥)) × (get_or s 0 0 ≡ 23 → ⊥)) × (get_or s 0 0 ≡ 24 → ⊥)) × (get_or s 0 0 ≡ 25 → ⊥)) × (get_or s 0 0 ≡ 26 → ⊥)) × (get_or s 0 0 ≡ 27 → ⊥)) × (get_or s 0 0 ≡ 28 → ⊥)) × (get_or s 0 0 ≡ 29 → ⊥)
      → Unfolding t T n i σ x x None
  term_other o = by_code t T n i σ s is_s x x None (get_or s 0 0) (λ ws rest. ⊥) refl (λ ws rest z. unshaped (get_or s 0 0) o ws rest z) (puts_none (λ ws rest. ⊥) x x (λ ws rest z. absurd z) refl refl)
    where
      unshaped : (c : ℕ)
          → (((((((((Unit {0} × (c ≡ 20 → ⊥)) × (c ≡ 21 → ⊥)) × (c ≡ 22 → ⊥)) × (c ≡ 23 → ⊥)) × (c ≡ 24 → ⊥)) × (c ≡ 25 → ⊥)) × (c ≡ 26 → ⊥)) × (c ≡ 27 → ⊥)) × (c ≡ 28 → ⊥)) × (c ≡ 29 → ⊥)
          → (ws rest : List ℕ) → Shape t T (length s - 1) i σ c ws rest → ⊥
      unshaped c o ws rest z =
          rw (ne_eqb c 20 o.0.0.0.0.0.0.0.0.0.1, ne_eqb c 21 o.0.0.0.0.0.0.0.0.1, ne_eqb c 22 o.0.0.0.0.0.0.0.1, ne_eqb c 23 o.0.0.0.0.0.0.1, ne_eqb c 24 o.0.0.0.0.0.1, ne_eqb c 25 o.0.0.0.0.1, ne_eqb c 26 o.0.0.0.1, ne_eqb c 27 o.0.0.1, ne_eqb c 28 o.0.1, ne_eqb c 29 o.1) at z

  pub internal_none : (y : Writer) (r : Option ℕ) → r ≡ None → get_or s 0 0 ≡ 20 → Heads (20 ∷ []) x y None → Unfolding t T n i σ x y r
  internal_none y r f e p = term_internal t T n i σ s is_s x y r e (puts_lost _ x y r f (head_none _ _ x y p))

  pub internal_put : (y : Writer) (u : ⊤) → get_or s 0 0 ≡ 20 → Heads (20 ∷ []) x y (Some u) → Unfolding t T n i σ x y (Some (length s - 1))
  internal_put y u e p = term_internal t T n i σ s is_s x y _ e (head_some _ _ x y u p)

pub ruleset terms = (term_none, internal_none, internal_put, term_action, term_sequence, term_choice, term_star, term_parallel, term_guard, term_over, term_many, term_call, term_other)

pub ruleset parts = (two_stray, two_put, joined_put, star_put, guard_put)

pub ruleset quantifiers = (copy_put, copies_start, over_put)
