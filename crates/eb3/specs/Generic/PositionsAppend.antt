-- Order isomorphisms of lists made by a head, an append or a change of type. Generic.
use Rattle.std.specs.Prelude.{◌≡◌, refl, List, [], ◌∷◌, ◌++◌, ◌⊎◌}
use Rattle.std.proofs.Common.{ap, sym, ◌∙◌, inl, inr, ⊎_elim, suc-le-suc, le_of_suc-le-suc, arith}
use Rattle.std.proofs.Math.Path.{transport, transport⁻¹}
use Rattle.std.proofs.Math.Option.{Option, none, some}
use Rattle.eb3.specs.Generic.Positions.{Position, at, index, Precedes, OrderIsomorphism, Front, Sum}

abbrev pub optional : {D E : Type 0} → (D → E) → Option D → Option E
optional f none = none
optional f (some d) = some (f d)

pub optional_id : {D E : Type 0} (f : D → E) (g : E → D) → ((d : D) → g (f d) ≡ d) → (o : Option D) → optional g (optional f o) ≡ o
optional_id f g h none = refl
optional_id {D} f g h (some d) = ap {B = Option D} some (h d)

-- One thing added before the first type of a sum is one thing added before the whole sum: the maps in both directions.
abbrev in_first : {D E : Type 0} → Option D ⊎ E → Option (D ⊎ E)
in_first (inl none) = none
in_first (inl (some d)) = some (inl d)
in_first (inr e) = some (inr e)

abbrev of_first : {D E : Type 0} → Option (D ⊎ E) → Option D ⊎ E
of_first none = inl none
of_first (some (inl d)) = inl (some d)
of_first (some (inr e)) = inr e

of_in : {D E : Type 0} (s : Option D ⊎ E) → of_first (in_first s) ≡ s
of_in (inl none) = refl
of_in (inl (some d)) = refl
of_in (inr e) = refl

in_of : {D E : Type 0} (s : Option (D ⊎ E)) → in_first (of_first s) ≡ s
in_of none = refl
in_of (some (inl d)) = refl
in_of (some (inr e)) = refl

abbrev pub on_both : {D E D' E' : Type 0} → (D → D') → (E → E') → D ⊎ E → D' ⊎ E'
on_both f g (inl d) = inl (f d)
on_both f g (inr e) = inr (g e)

pub on_both_id : {D E D' E' : Type 0} (f : D → D') (g : E → E') (f' : D' → D) (g' : E' → E)
    → ((d : D) → f' (f d) ≡ d) → ((e : E) → g' (g e) ≡ e) → (s : D ⊎ E) → on_both f' g' (on_both f g s) ≡ s
on_both_id {D} {E} f g f' g' h k (inl d) = ap {B = D ⊎ E} inl (h d)
on_both_id {D} {E} f g f' g' h k (inr e) = ap {B = D ⊎ E} inr (k e)

module _ {X : Type 0} where
  pub index_injective : (l : List X) (p q : Position l) → index l p ≡ index l q → p ≡ q
  index_injective [] p q e = absurd p
  index_injective (x ∷ l) none none e = refl
  index_injective (x ∷ l) none (some q) e = let z : ⊥ = omega arith in absurd z
  index_injective (x ∷ l) (some p) none e = let z : ⊥ = omega arith in absurd z
  index_injective (x ∷ l) (some p) (some q) e = ap {B = Option (Position l)} some (index_injective l p q (omega arith))

  pub front_precedes : (x : X) (l : List X) (p q : Option (Position l)) → Front (Precedes l) p q → Precedes (x ∷ l) p q
  front_precedes x l none none h = absurd h
  front_precedes x l none (some q) h = omega arith
  front_precedes x l (some p) none h = absurd h
  front_precedes x l (some p) (some q) h = suc-le-suc h

  pub precedes_front : (x : X) (l : List X) (p q : Option (Position l)) → Precedes (x ∷ l) p q → Front (Precedes l) p q
  precedes_front x l none none h = omega arith
  precedes_front x l none (some q) h = tt
  precedes_front x l (some p) none h = omega arith
  precedes_front x l (some p) (some q) h = le_of_suc-le-suc h

  -- Another type for the same things.
  pub transfer : {D E : Type 0} {R : D → D → Type 0} {Q : E → E → Type 0} {f : D → X} {g : E → X} {l : List X} → OrderIsomorphism D R f l
      → (to : E → D) (from : D → E) → ((e : E) → from (to e) ≡ e) → ((d : D) → to (from d) ≡ d)
      → ((e : E) → f (to e) ≡ g e)
      → ((e e' : E) → Q e e' → R (to e) (to e')) → ((e e' : E) → R (to e) (to e') → Q e e') → OrderIsomorphism E Q g l
  transfer o to from ft tf h up down = record {
    position = λ e. o.position (to e);
    inverse = λ p. from (o.inverse p);
    left_inverse = λ e. ap from (o.left_inverse (to e)) ∙ ft e;
    right_inverse = λ p. ap o.position (tf (o.inverse p)) ∙ o.right_inverse p;
    entry = λ e. o.entry (to e) ∙ h e;
    preserves = λ e e' q. o.preserves (to e) (to e') (up e e' q);
    reflects = λ e e' q. down e e' (o.reflects (to e) (to e') q);
  }

  -- The same where the orders are the same types.
  pub transfer_exact : {D E : Type 0} {R : D → D → Type 0} {Q : E → E → Type 0} {f : D → X} {g : E → X} {l : List X} → OrderIsomorphism D R f l
      → (to : E → D) (from : D → E) → ((e : E) → from (to e) ≡ e) → ((d : D) → to (from d) ≡ d)
      → ((e : E) → f (to e) ≡ g e) → ((e e' : E) → Q e e' ≡ R (to e) (to e')) → OrderIsomorphism E Q g l
  transfer_exact o to from ft tf h equal = transfer o to from ft tf h (λ e e' q. transport (equal e e') q) (λ e e' q. transport⁻¹ (equal e e') q)

  pub none_listed : {D : Type 0} {R : D → D → Type 0} {f : D → X} → (D → ⊥) → OrderIsomorphism D R f []
  none_listed n = record {
    position = n;
    inverse = λ p. absurd p;
    left_inverse = λ d. absurd (n d);
    right_inverse = λ p. absurd p;
    entry = λ d. absurd (n d);
    preserves = λ d e q. absurd (n d);
    reflects = λ d e q. absurd (n d);
  }

  abbrev pub or_else : {D : Type 0} → X → (D → X) → Option D → X
  or_else x f none = x
  or_else x f (some d) = f d

  module _ {D : Type 0} {R : D → D → Type 0} {f : D → X} {l : List X} (x : X) (o : OrderIsomorphism D R f l) where
    front_entry : (d : Option D) → at (x ∷ l) (optional o.position d) ≡ or_else x f d
    front_entry none = refl
    front_entry (some d) = o.entry d

    front_preserves : (d e : Option D) → Front R d e → Precedes (x ∷ l) (optional o.position d) (optional o.position e)
    front_preserves none none h = absurd h
    front_preserves none (some e) h = omega arith
    front_preserves (some d) none h = absurd h
    front_preserves (some d) (some e) h = suc-le-suc (o.preserves d e h)

    front_reflects : (d e : Option D) → Precedes (x ∷ l) (optional o.position d) (optional o.position e) → Front R d e
    front_reflects none none h = omega arith
    front_reflects none (some e) h = tt
    front_reflects (some d) none h = omega arith
    front_reflects (some d) (some e) h = o.reflects d e (le_of_suc-le-suc h)

    -- One thing more, before all others.
    pub one_more : OrderIsomorphism (Option D) (Front R) (or_else x f) (x ∷ l)
    one_more = record {
      position = optional o.position;
      inverse = optional o.inverse;
      left_inverse = optional_id o.position o.inverse o.left_inverse;
      right_inverse = optional_id o.inverse o.position o.right_inverse;
      entry = front_entry;
      preserves = front_preserves;
      reflects = front_reflects;
    }

  pub inverse_entry : {D : Type 0} {R : D → D → Type 0} {f : D → X} {l : List X} (o : OrderIsomorphism D R f l) (p : Position l) → at l p ≡ f (o.inverse p)
  inverse_entry {l = l} o p = ap (at l) (sym (o.right_inverse p)) ∙ o.entry (o.inverse p)

  positions : (l : List X) → OrderIsomorphism (Position l) (Precedes l) (at l) l
  positions l = record { position = λ p. p; inverse = λ p. p; left_inverse = λ p. refl; right_inverse = λ p. refl; entry = λ p. refl; preserves = λ p q h. h; reflects = λ p q h. h }

  pub one_listed : {D : Type 0} {R : D → D → Type 0} {f : D → X} (d : D) → ((e : D) → d ≡ e) → ((e e' : D) → R e e' → ⊥) → OrderIsomorphism D R f (f d ∷ [])
  one_listed {D} {R} {f} d h n = transfer (one_more (f d) (positions [])) (λ e. none) (λ o. d) h
      (elim [ none ↦ refl | some p ↦ absurd p ]) (λ e. ap f (h e)) (λ e e' q. n e e' q) (λ e e' q. absurd q)

  in_shown : (x : X) (l r : List X) (s : Option (Position l) ⊎ Position r) → or_else x (⊎_elim (at l) (at r)) (in_first s) ≡ ⊎_elim (at (x ∷ l)) (at r) s
  in_shown x l r (inl none) = refl
  in_shown x l r (inl (some d)) = refl
  in_shown x l r (inr e) = refl

  in_preserves : (x : X) (l r : List X) (s s' : Option (Position l) ⊎ Position r) → Sum (Precedes (x ∷ l)) (Precedes r) s s' → Front (Sum (Precedes l) (Precedes r)) (in_first s) (in_first s')
  in_preserves x l r (inl none) (inl none) h = omega arith
  in_preserves x l r (inl none) (inl (some q)) h = tt
  in_preserves x l r (inl none) (inr q) h = tt
  in_preserves x l r (inl (some p)) (inl none) h = omega arith
  in_preserves x l r (inl (some p)) (inl (some q)) h = le_of_suc-le-suc h
  in_preserves x l r (inl (some p)) (inr q) h = tt
  in_preserves x l r (inr p) (inl none) h = h
  in_preserves x l r (inr p) (inl (some q)) h = h
  in_preserves x l r (inr p) (inr q) h = h

  in_reflects : (x : X) (l r : List X) (s s' : Option (Position l) ⊎ Position r) → Front (Sum (Precedes l) (Precedes r)) (in_first s) (in_first s') → Sum (Precedes (x ∷ l)) (Precedes r) s s'
  in_reflects x l r (inl none) (inl none) h = absurd h
  in_reflects x l r (inl none) (inl (some q)) h = omega arith
  in_reflects x l r (inl none) (inr q) h = tt
  in_reflects x l r (inl (some p)) (inl none) h = absurd h
  in_reflects x l r (inl (some p)) (inl (some q)) h = suc-le-suc h
  in_reflects x l r (inl (some p)) (inr q) h = tt
  in_reflects x l r (inr p) (inl none) h = h
  in_reflects x l r (inr p) (inl (some q)) h = h
  in_reflects x l r (inr p) (inr q) h = h

  append_positions : (l r : List X) → OrderIsomorphism (Position l ⊎ Position r) (Sum (Precedes l) (Precedes r)) (⊎_elim (at l) (at r)) (l ++ r)
  append_positions [] r = record {
    position = elim [ inl p ↦ absurd p | inr q ↦ q ];
    inverse = inr;
    left_inverse = elim [ inl p ↦ absurd p | inr q ↦ refl ];
    right_inverse = λ p. refl;
    entry = elim [ inl p ↦ absurd p | inr q ↦ refl ];
    preserves = elim [ inl p ↦ absurd p | inr q ↦ elim [ inl p ↦ absurd p | inr q' ↦ λ h. h ] ];
    reflects = elim [ inl p ↦ absurd p | inr q ↦ elim [ inl p ↦ absurd p | inr q' ↦ λ h. h ] ];
  }
  append_positions (x ∷ l) r = transfer (one_more x (append_positions l r)) in_first of_first of_in in_of (in_shown x l r) (in_preserves x l r) (in_reflects x l r)

  module _ {D E : Type 0} {R : D → D → Type 0} {Q : E → E → Type 0} {f : D → X} {g : E → X} {l r : List X} (o : OrderIsomorphism D R f l) (q : OrderIsomorphism E Q g r) where
    on_both_shown : (s : D ⊎ E) → ⊎_elim (at l) (at r) (on_both o.position q.position s) ≡ ⊎_elim f g s
    on_both_shown (inl d) = o.entry d
    on_both_shown (inr e) = q.entry e

    on_both_preserves : (s s' : D ⊎ E) → Sum R Q s s' → Sum (Precedes l) (Precedes r) (on_both o.position q.position s) (on_both o.position q.position s')
    on_both_preserves (inl d) (inl d') h = o.preserves d d' h
    on_both_preserves (inl d) (inr e) h = h
    on_both_preserves (inr e) (inl d) h = h
    on_both_preserves (inr e) (inr e') h = q.preserves e e' h

    on_both_reflects : (s s' : D ⊎ E) → Sum (Precedes l) (Precedes r) (on_both o.position q.position s) (on_both o.position q.position s') → Sum R Q s s'
    on_both_reflects (inl d) (inl d') h = o.reflects d d' h
    on_both_reflects (inl d) (inr e) h = h
    on_both_reflects (inr e) (inl d) h = h
    on_both_reflects (inr e) (inr e') h = q.reflects e e' h

    pub appended : OrderIsomorphism (D ⊎ E) (Sum R Q) (⊎_elim f g) (l ++ r)
    appended = transfer (append_positions l r) (on_both o.position q.position) (on_both o.inverse q.inverse)
        (on_both_id _ _ _ _ o.left_inverse q.left_inverse) (on_both_id _ _ _ _ o.right_inverse q.right_inverse) on_both_shown
        on_both_preserves on_both_reflects
