-- A parallel: both sides done, a mask that hides no more than those above, any other mask.
use mathlib.Core.Path.{◌≡◌, refl, sym, ap, ◌∙◌, subst}
use mathlib.Core.Bool.{Bool, true, false, ◌&&◌}
use mathlib.Core.List.{List, [], ◌∷◌}
use Prim.Native.Nat.{ℕ, ◌+◌, ◌-◌, ◌*◌, ◌%◌, ◌≤◌}
use native.Mathlib.Omega.{arith}
use lib.Bits.{bit_or}
use lib.Dec.{eqb}
use lib.ListN.{length, take, drop, length-drop}
use lib.Seq.{get_or-take}
use borrow.Author.Tests.{eq-eqb, ne_eqb}
use Rattle.eb3.specs.Scopes.{Scope}
use Rattle.eb3.specs.Terms.{Term, done?}
use Rattle.eb3.specs.Sizes.{size}
use Rattle.actions.specs.Sets.{mask_word, mask_set, has_all}
use Rattle.listing.specs.Positions.{TwoAt, MaskedAt}
use Rattle.listing.specs.Laws.CasesByCode.{parallel_cases}
use Rattle.derivation.specs.declared.arrays.Derivation.{Derivation}
use Rattle.derivation.specs.declared.arrays.Derivation.TheVariants.{At, Behind}
use Rattle.derivation.specs.Derived.{DerivedShown}
use Rattle.derivation.specs.Arms.{Decided, TwoDerived, MaskedDerived}
use Rattle.listing.specs.Laws.Operands.{BothDone, behind_both, mask_len}
use Rattle.derivation.specs.Laws.Answers.{by_order, same_place, no_rest, decided_room}
use Rattle.derivation.specs.Laws.Outcomes.{placed_more, placed_single, single_roomed, outcome_as, outcome_single, decided_placed, decided_outcome}
use Rattle.derivation.proofs.Answers.{derived_of}
use Rattle.derivation.proofs.Arms.{Told}
use Rattle.derivation.proofs.Counts.{count_both_done, count_masked, count_covered, room_sides, path_both_done, path_masked, path_covered}

-- A mask is the first four words.
mask_front : (d : List ℕ) → mask_set (take 4 d) ≡ mask_set d
unfolding mask_set mask_word
mask_front d =
    let a = get_or-take 4 d 0 0 (omega arith) in
    let b = get_or-take 4 d 1 0 (omega arith) in
    let c = get_or-take 4 d 2 0 (omega arith) in
    let e = get_or-take 4 d 3 0 (omega arith) in
    λ i. ((e i % 65536 * 65536 + c i % 65536) * 65536 + b i % 65536) * 65536 + a i % 65536

module _ (x : ℕ) (d t M : List ℕ) (k : ℕ) (entry exit : List ℕ) (n : ℕ) (ist : t ≡ drop 4 d) (b : Bool) (tested : BothDone t b) (r : Derivation) where
  sides : {P : Scope} {Δ : List ℕ} {E F : Term} {rest : List ℕ} → MaskedAt d P Δ E F rest → TwoAt t P E F rest
  sides {P} {Δ} {E} {F} {rest} h = subst (λ x. TwoAt x P E F rest) (sym ist) h.sides

  pub done_short : (v : List ℕ) → v ≡ drop 1 (drop 1 t) → length v ≤ length d
  done_short v e = omega (arith, ap length e, length-drop 1 (drop 1 t), length-drop 1 t, mask_len d t ist)

  pub parallel_done : (v : List ℕ) (q : Derivation) → b ≡ true → v ≡ drop 1 (drop 1 t) → (k ≡ 0 → q ≡ At (length entry)) → (1 ≤ k → q ≡ Behind (k - 1) (length v))
      → Decided (0 ∷ []) q entry exit r → DerivedShown x (25 ∷ d) M k entry exit n r
  unfolding size
  parallel_done v q e f a c h =
      derived_of (decided_placed h (placed_single (length (25 ∷ d)) k (length v) (length entry) q a c (omega (arith, done_short v f)))) (parallel_cases d (Told x M k entry exit n r) (λ P Δ E F rest s.
      let o : (done? E && done? F) ≡ true = sym (tested P E F rest (sides s)) ∙ e in (
        λ w y. decided_room h (single_roomed k (length v) (length entry) q a c) (λ i z. by_order k 1 (λ j. omega (arith, w, same_place (sym (a (omega arith)) ∙ z))) (λ j. no_rest (sym z ∙ c j))),
        λ z. outcome_as _ _ _ (count_both_done M x Δ E F o) (ap length (sym (f ∙ behind_both (sides s) o))) (λ y. path_both_done M x Δ E F P.edition.width k o) (decided_outcome h z (outcome_single k (length v) q entry a c)),
      )))

  module _ (e : b ≡ false) (δ : ℕ) (isδ : δ ≡ mask_set d) (y : ℕ) (joined : y ≡ bit_or x δ) where
    other : {P : Scope} {Δ : List ℕ} {E F : Term} {rest : List ℕ} → MaskedAt d P Δ E F rest → (done? E && done? F) ≡ false
    other {P} {Δ} {E} {F} {rest} s = sym (tested P E F rest (sides s)) ∙ e

    mask_is : {P : Scope} {Δ : List ℕ} {E F : Term} {rest : List ℕ} → MaskedAt d P Δ E F rest → δ ≡ mask_set Δ
    mask_is s = isδ ∙ sym (mask_front d) ∙ ap mask_set s.mask

    all_is : {P : Scope} {Δ : List ℕ} {E F : Term} {rest : List ℕ} → MaskedAt d P Δ E F rest → has_all x (mask_set Δ) ≡ eqb y x
    all_is s = sym (ap (λ w. eqb w x) joined ∙ ap (has_all x) (mask_is s))

    pub parallel_covered : y ≡ x → TwoDerived x 1 t M k entry exit n r → DerivedShown x (25 ∷ d) M k entry exit n r
    unfolding size
    parallel_covered f h = derived_of (placed_more (length (25 ∷ d)) k h.placed (omega (arith, mask_len d t ist)) (omega arith)) (parallel_cases d (Told x M k entry exit n r) (λ P Δ E F rest s.
        let a : has_all x (mask_set Δ) ≡ true = all_is s ∙ eq-eqb y x f in
        let w = sides s in (
          λ v m. h.has_room P E F rest w (omega (arith, v)) (omega (arith, m, room_sides M x Δ E F (other s))),
          λ i. outcome_as _ _ _ (count_covered M x Δ E F (other s) P a w.first.fits w.second.fits) refl (λ j. path_covered M x Δ E F P.edition.width k (other s) a) (h.right P E F rest w i),
        )))

    pub parallel_masked : (y ≡ x → ⊥) → MaskedDerived x δ t M k entry exit n r → DerivedShown x (25 ∷ d) M k entry exit n r
    unfolding size
    parallel_masked f h = derived_of (placed_more (length (25 ∷ d)) k h.placed (omega (arith, mask_len d t ist)) (omega arith)) (parallel_cases d (Told x M k entry exit n r) (λ P Δ E F rest s.
        let a : has_all x (mask_set Δ) ≡ false = all_is s ∙ ne_eqb y x f in
        let w = sides s in
        let g : MaskedDerived x (mask_set Δ) t M k entry exit n r = subst (λ v. MaskedDerived x v t M k entry exit n r) (mask_is s) h in (
          λ v m. g.has_room P E F rest w (omega (arith, v)) (omega (arith, m, room_sides M x Δ E F (other s))),
          λ i. outcome_as _ _ _ (count_masked M x Δ E F (other s) P w.first.fits w.second.fits) refl (λ j. path_masked M x Δ E F P.edition.width k (other s) a) (g.right P E F rest w i),
        )))
