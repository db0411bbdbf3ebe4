-- Order isomorphisms of mapped and filtered lists, and of the pairs of two lists that pass a test. Generic.
use Rattle.std.specs.Prelude.{◌≡◌, refl, Bool, true, false, cond, List, [], ◌∷◌, map, ◌⊎◌, T}
use Rattle.std.proofs.Common.{ap, sym, ◌∙◌, subst, inl, inr, ⊎_elim, suc-le-suc, le_of_suc-le-suc, arith}
use Rattle.std.proofs.Math.Option.{Option, none, some}
use mathlib.Core.HLevel.{is_prop→PathP}
use Rattle.std.proofs.Math.Dec.{T_prop}
use Rattle.eb3.specs.Generic.Lists.{filter, concat_map}
use Rattle.eb3.specs.Generic.Positions.{Position, at, index, Precedes, OrderIsomorphism, Sum, Lex}
use Rattle.eb3.specs.Generic.PositionsAppend.{transfer, none_listed, one_listed, one_more, or_else, appended, index_injective, front_precedes, precedes_front, inverse_entry}

-- A function on the list.
module _ {X Y : Type 0} (h : X → Y) where
  map_shown : (x : X) (l : List X) (p : Option (Position l)) → or_else (h x) (λ q. h (at l q)) p ≡ h (at (x ∷ l) p)
  map_shown x l none = refl
  map_shown x l (some p) = refl

  map_positions : (l : List X) → OrderIsomorphism (Position l) (Precedes l) (λ p. h (at l p)) (map h l)
  map_positions [] = none_listed (λ p. p)
  map_positions (x ∷ l) = transfer (one_more (h x) (map_positions l)) (λ p. p) (λ p. p) (λ p. refl) (λ p. refl) (map_shown x l) (precedes_front x l) (front_precedes x l)

  pub mapped : {D : Type 0} {R : D → D → Type 0} {f : D → X} {l : List X} → OrderIsomorphism D R f l → OrderIsomorphism D R (λ d. h (f d)) (map h l)
  mapped {l = l} o = transfer (map_positions l) o.position o.inverse o.left_inverse o.right_inverse (λ d. ap h (o.entry d)) o.preserves o.reflects

-- A test on the list.
module _ {X : Type 0} (p : X → Bool) where
  filter_front : {D : Type 0} {R : D → D → Type 0} {f : D → X} {l : List X} (x : X) (b : Bool) → OrderIsomorphism D R f l
      → OrderIsomorphism (T b ⊎ D) (Sum (λ t u. ⊥) R) (⊎_elim (λ t. x) f) (cond b (x ∷ l) l)
  filter_front x true o = appended (one_listed tt (λ t. refl) (λ t u h. h)) o
  filter_front x false o = appended {l = []} (none_listed (λ t. t)) o

  abbrev Filtered : List X → Type 0
  Filtered l = (i : Position l) × T (p (at l i))

  abbrev Filtered_precedes : (l : List X) → Filtered l → Filtered l → Type 0
  Filtered_precedes l k k' = Precedes l k.0 k'.0

  abbrev apart : (x : X) (l : List X) → Filtered (x ∷ l) → T (p x) ⊎ Filtered l
  apart x l k = go k.0 k.1
    where
      go : (i : Option (Position l)) → T (p (at (x ∷ l) i)) → T (p x) ⊎ Filtered l
      go none t = inl t
      go (some i) t = inr (i, t)

  abbrev again : (x : X) (l : List X) → T (p x) ⊎ Filtered l → Filtered (x ∷ l)
  again x l (inl t) = (none, t)
  again x l (inr k) = (some k.0, k.1)

  again_apart : (x : X) (l : List X) (i : Option (Position l)) (t : T (p (at (x ∷ l) i))) → again x l (apart x l (i, t)) ≡ (i, t)
  again_apart x l none t = refl
  again_apart x l (some i) t = refl

  apart_again : (x : X) (l : List X) (s : T (p x) ⊎ Filtered l) → apart x l (again x l s) ≡ s
  apart_again x l (inl t) = refl
  apart_again x l (inr k) = refl

  apart_shown : (x : X) (l : List X) (i : Option (Position l)) (t : T (p (at (x ∷ l) i)))
      → ⊎_elim (λ t. x) (λ k. at l k.0) (apart x l (i, t)) ≡ at (x ∷ l) i
  apart_shown x l none t = refl
  apart_shown x l (some i) t = refl

  apart_preserves : (x : X) (l : List X) (i j : Option (Position l)) (t : T (p (at (x ∷ l) i))) (u : T (p (at (x ∷ l) j)))
      → Precedes (x ∷ l) i j → Sum (λ t u. ⊥) (Filtered_precedes l) (apart x l (i, t)) (apart x l (j, u))
  apart_preserves x l none none t u h = omega arith
  apart_preserves x l none (some j) t u h = tt
  apart_preserves x l (some i) none t u h = omega arith
  apart_preserves x l (some i) (some j) t u h = le_of_suc-le-suc h

  apart_reflects : (x : X) (l : List X) (i j : Option (Position l)) (t : T (p (at (x ∷ l) i))) (u : T (p (at (x ∷ l) j)))
      → Sum (λ t u. ⊥) (Filtered_precedes l) (apart x l (i, t)) (apart x l (j, u)) → Precedes (x ∷ l) i j
  apart_reflects x l none none t u h = absurd h
  apart_reflects x l none (some j) t u h = omega arith
  apart_reflects x l (some i) none t u h = absurd h
  apart_reflects x l (some i) (some j) t u h = suc-le-suc h

  filter_positions : (l : List X) → OrderIsomorphism (Filtered l) (Filtered_precedes l) (λ k. at l k.0) (filter p l)
  filter_positions [] = none_listed (λ k. k.0)
  filter_positions (x ∷ l) = transfer (filter_front x (p x) (filter_positions l)) (apart x l) (again x l)
      (λ k. again_apart x l k.0 k.1) (apart_again x l) (λ k. apart_shown x l k.0 k.1)
      (λ k k'. apart_preserves x l k.0 k'.0 k.1 k'.1) (λ k k'. apart_reflects x l k.0 k'.0 k.1 k'.1)

  kept_path : {D : Type 0} (f : D → X) {d e : D} → d ≡ e → (t : T (p (f d))) (u : T (p (f e))) → Path ((d : D) × T (p (f d))) (d, t) (e, u)
  kept_path f q t u = λ i. (q i, is_prop→PathP (λ j. T (p (f (q j)))) (λ j. T_prop (p (f (q j)))) t u i)

  pub filtered : {D : Type 0} {R : D → D → Type 0} {f : D → X} {l : List X} → OrderIsomorphism D R f l
      → OrderIsomorphism ((d : D) × T (p (f d))) (λ k k'. R k.0 k'.0) (λ k. f k.0) (filter p l)
  filtered {f = f} {l = l} o = transfer (filter_positions l)
      (λ k. (o.position k.0, subst (λ x. T (p x)) (sym (o.entry k.0)) k.1))
      (λ k. (o.inverse k.0, subst (λ x. T (p x)) (inverse_entry o k.0) k.1))
      (λ k. kept_path f (o.left_inverse k.0) _ _) (λ k. kept_path (at l) (o.right_inverse k.0) _ _) (λ k. o.entry k.0)
      (λ k k'. o.preserves k.0 k'.0) (λ k k'. o.reflects k.0 k'.0)

-- Pairs of two lists under a test, ordered by the first, then the second.
module _ {X Y Z : Type 0} (satisfies : X → Y → Bool) (h : X → Y → Z) (r : List Y) where
  abbrev row : X → List Z
  row x = map (h x) (filter (satisfies x) r)

  abbrev Pairs : List X → Type 0
  Pairs l = (i : Position l) × (j : Position r) × T (satisfies (at l i) (at r j))

  abbrev Pairs_precede : (l : List X) → Pairs l → Pairs l → Type 0
  Pairs_precede l s s' = Lex (Precedes l) (Precedes r) s.0 s.1 s'.0 s'.1

  abbrev Row : X → Type 0
  Row x = (j : Position r) × T (satisfies x (at r j))

  row_positions : (x : X) → OrderIsomorphism (Row x) (λ k k'. Precedes r k.0 k'.0) (λ k. h x (at r k.0)) (row x)
  row_positions x = mapped (h x) (filter_positions (satisfies x) r)

  abbrev parted : (x : X) (l : List X) → Pairs (x ∷ l) → Row x ⊎ Pairs l
  parted x l s = go s.0 s.1 s.2
    where
      go : (i : Option (Position l)) (j : Position r) → T (satisfies (at (x ∷ l) i) (at r j)) → Row x ⊎ Pairs l
      go none j t = inl (j, t)
      go (some i) j t = inr (i, j, t)

  abbrev paired : (x : X) (l : List X) → Row x ⊎ Pairs l → Pairs (x ∷ l)
  paired x l (inl k) = (none, k.0, k.1)
  paired x l (inr s) = (some s.0, s.1, s.2)

  paired_parted : (x : X) (l : List X) (i : Option (Position l)) (j : Position r) (t : T (satisfies (at (x ∷ l) i) (at r j))) → paired x l (parted x l (i, j, t)) ≡ (i, j, t)
  paired_parted x l none j t = refl
  paired_parted x l (some i) j t = refl

  parted_paired : (x : X) (l : List X) (s : Row x ⊎ Pairs l) → parted x l (paired x l s) ≡ s
  parted_paired x l (inl k) = refl
  parted_paired x l (inr s) = refl

  parted_shown : (x : X) (l : List X) (i : Option (Position l)) (j : Position r) (t : T (satisfies (at (x ∷ l) i) (at r j)))
      → ⊎_elim (λ k. h x (at r k.0)) (λ s. h (at l s.0) (at r s.1)) (parted x l (i, j, t)) ≡ h (at (x ∷ l) i) (at r j)
  parted_shown x l none j t = refl
  parted_shown x l (some i) j t = refl

  abbrev Parted_precede : (x : X) (l : List X) → Row x ⊎ Pairs l → Row x ⊎ Pairs l → Type 0
  Parted_precede x l = Sum (λ k k'. Precedes r k.0 k'.0) (Pairs_precede l)

  parted_preserves : (x : X) (l : List X) (i : Option (Position l)) (j : Position r) (t : T (satisfies (at (x ∷ l) i) (at r j)))
      (i' : Option (Position l)) (j' : Position r) (t' : T (satisfies (at (x ∷ l) i') (at r j')))
      → Lex (Precedes (x ∷ l)) (Precedes r) i j i' j' → Parted_precede x l (parted x l (i, j, t)) (parted x l (i', j', t'))
  parted_preserves x l none j t none j' t' (inl s) = let z : ⊥ = omega arith in absurd z
  parted_preserves x l none j t none j' t' (inr s) = s.1
  parted_preserves x l none j t (some i') j' t' s = tt
  parted_preserves x l (some i) j t none j' t' (inl s) = omega arith
  parted_preserves x l (some i) j t none j' t' (inr s) = let e = ap (index (x ∷ l)) s.0 in omega arith
  parted_preserves x l (some i) j t (some i') j' t' (inl s) = inl (le_of_suc-le-suc s)
  parted_preserves x l (some i) j t (some i') j' t' (inr s) = inr (index_injective l i i' (let e = ap (index (x ∷ l)) s.0 in omega arith), s.1)

  parted_reflects : (x : X) (l : List X) (i : Option (Position l)) (j : Position r) (t : T (satisfies (at (x ∷ l) i) (at r j)))
      (i' : Option (Position l)) (j' : Position r) (t' : T (satisfies (at (x ∷ l) i') (at r j')))
      → Parted_precede x l (parted x l (i, j, t)) (parted x l (i', j', t')) → Lex (Precedes (x ∷ l)) (Precedes r) i j i' j'
  parted_reflects x l none j t none j' t' s = inr (refl, s)
  parted_reflects x l none j t (some i') j' t' s = inl (omega arith)
  parted_reflects x l (some i) j t none j' t' s = absurd s
  parted_reflects x l (some i) j t (some i') j' t' (inl s) = inl (suc-le-suc s)
  parted_reflects x l (some i) j t (some i') j' t' (inr s) = inr (ap {B = Option (Position l)} some s.0, s.1)

  pair_positions : (l : List X) → OrderIsomorphism (Pairs l) (Pairs_precede l) (λ s. h (at l s.0) (at r s.1)) (concat_map row l)
  pair_positions [] = none_listed (λ s. s.0)
  pair_positions (x ∷ l) = transfer (appended (row_positions x) (pair_positions l)) (parted x l) (paired x l)
      (λ s. paired_parted x l s.0 s.1 s.2) (parted_paired x l) (λ s. parted_shown x l s.0 s.1 s.2)
      (λ s s'. parted_preserves x l s.0 s.1 s.2 s'.0 s'.1 s'.2) (λ s s'. parted_reflects x l s.0 s.1 s.2 s'.0 s'.1 s'.2)

  matched_path : {D E : Type 0} (f : D → X) (g : E → Y) {d d' : D} {e e' : E} (a : d ≡ d') (b : e ≡ e') (t : T (satisfies (f d) (g e))) (u : T (satisfies (f d') (g e')))
      → Path ((d : D) × (e : E) × T (satisfies (f d) (g e))) (d, e, t) (d', e', u)
  matched_path f g a b t u =
      λ i. (a i, b i, is_prop→PathP (λ j. T (satisfies (f (a j)) (g (b j)))) (λ j. T_prop (satisfies (f (a j)) (g (b j)))) t u i)

  module _ {D E : Type 0} {R : D → D → Type 0} {Q : E → E → Type 0} {f : D → X} {g : E → Y} {l : List X} (o : OrderIsomorphism D R f l) (q : OrderIsomorphism E Q g r) where
    lex_preserves : (d d' : D) (e e' : E) → Lex R Q d e d' e' → Lex (Precedes l) (Precedes r) (o.position d) (q.position e) (o.position d') (q.position e')
    lex_preserves d d' e e' (inl s) = inl (o.preserves d d' s)
    lex_preserves d d' e e' (inr s) = inr (ap o.position s.0, q.preserves e e' s.1)

    lex_reflects : (d d' : D) (e e' : E) → Lex (Precedes l) (Precedes r) (o.position d) (q.position e) (o.position d') (q.position e') → Lex R Q d e d' e'
    lex_reflects d d' e e' (inl s) = inl (o.reflects d d' s)
    lex_reflects d d' e e' (inr s) = inr (sym (o.left_inverse d) ∙ (ap o.inverse s.0 ∙ o.left_inverse d'), q.reflects e e' s.1)

    pub matched : OrderIsomorphism ((d : D) × (e : E) × T (satisfies (f d) (g e))) (λ s s'. Lex R Q s.0 s.1 s'.0 s'.1) (λ s. h (f s.0) (g s.1)) (concat_map row l)
    matched = transfer (pair_positions l)
        (λ s. (o.position s.0, q.position s.1, subst T (λ i. satisfies (sym (o.entry s.0) i) (sym (q.entry s.1) i)) s.2))
        (λ s. (o.inverse s.0, q.inverse s.1, subst T (λ i. satisfies (inverse_entry o s.0 i) (inverse_entry q s.1 i)) s.2))
        (λ s. matched_path f g (o.left_inverse s.0) (q.left_inverse s.1) _ _)
        (λ s. matched_path (at l) (at r) (o.right_inverse s.0) (q.right_inverse s.1) _ _)
        (λ s. λ i. h (o.entry s.0 i) (q.entry s.1 i))
        (λ s s'. lex_preserves s.0 s'.0 s.1 s'.1) (λ s s'. lex_reflects s.0 s'.0 s.1 s'.1)
