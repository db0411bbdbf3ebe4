-- The first derivation with an event is the first move with it (document 01, "Operations": Present).
use Rattle.std.specs.Prelude.{◌≡◌, refl, List, ◌⊎◌, ℕ, ◌≤◌, ◌<◌, length}
use Rattle.std.proofs.Common.{ap, sym, ◌∙◌, subst, inl, inr, arith}
use Rattle.std.proofs.Math.Option.{Option, none, some, some-injective}
use Rattle.std.proofs.Math.ListN.{get_elem?}
use Rattle.eb3.specs.Generic.Positions.{Enumeration, Number}
use Rattle.eb3.specs.Generic.PositionsLaws.{index_below, position_at}
use Rattle.eb3.specs.Terms.{Term, Action}
use Rattle.eb3.specs.Moves.{Move, moves, first_with}
use Rattle.eb3.proofs.Laws.Moves.{First, first_exact}
use Rattle.eb3.specs.Derivations.{DataState, Derivation, Earlier}
use Rattle.eb3.specs.TransitionSystems.{Transition}
use Rattle.eb3.proofs.Laws.TransitionSystems.{getElem?_map, getElem?_unmap}
use Rattle.eb3.specs.Semantics.{Situation, situation, transition, system, concluded}
use Rattle.demanded.proofs.Laws.Verdicts.{at_most_or}

-- What has a number below the length.
pub numbered_there : {X D : Type 0} {≺ : D → D → Type 0} {shown : D → X} (l : List X) (n : Enumeration D ≺ shown l) (k : ℕ) → k < length l → (d : D) × ((n.numbers.fun d).0 ≡ k)
numbered_there l n k h = (n.numbers.inv (k, h), ap (λ (x : Number l). x.0) (n.numbers.rinv (k, h)))

pub entry_below : {X : Type 0} (l : List X) (k : ℕ) (x : X) → get_elem? l k ≡ some x → k < length l
entry_below l k x e = let p = position_at l k x e in subst (λ n. n < length l) p.2 (index_below l p.0)

-- The first derivation with an event, and the first move with it.
module _ (S : DataState) (M : S.State) (E : Term) (n : Enumeration (Derivation S M E) Earlier concluded ((system S).transitions (situation E M))) (ρ : Action) where
  abbrev l : List Move
  l = moves (S.satisfies M) E

  -- The move at a derivation's number, and the derivation of a move's number.
  move_there : (d : Derivation S M E) → (x : Move) × (get_elem? l (n.numbers.fun d).0 ≡ some x) × (x.action ≡ d.action)
  move_there d =
      let u = getElem?_unmap (transition S M) l (n.numbers.fun d).0 (concluded d) (n.entry d) in
      (u.0, u.1, ap (λ (t : Transition (Situation S)). t.action) u.2)

  derivation_there : (k : ℕ) (x : Move) → get_elem? l k ≡ some x → (d : Derivation S M E) × ((n.numbers.fun d).0 ≡ k) × (d.action ≡ x.action)
  derivation_there k x e =
      let t : get_elem? ((system S).transitions (situation E M)) k ≡ some (transition S M x) = getElem?_map (transition S M) l k x e in
      let d = numbered_there ((system S).transitions (situation E M)) n k (entry_below ((system S).transitions (situation E M)) k (transition S M x) t) in
      let c : concluded d.0 ≡ transition S M x = some-injective (concluded d.0) (transition S M x)
      (sym (n.entry d.0) ∙ (ap (get_elem? ((system S).transitions (situation E M))) d.1 ∙ t)) in
      (d.0, d.1, ap (λ (t : Transition (Situation S)). t.action) c)

  abbrev pub FirstDerived : Option ℕ → Type 0
  FirstDerived none = (d : Derivation S M E) → d.action ≡ ρ → ⊥
  FirstDerived (some k) = (d : Derivation S M E) × ((n.numbers.fun d).0 ≡ k) × (d.action ≡ ρ) × ((e : Derivation S M E) → Earlier e d → e.action ≡ ρ → ⊥)

  first_derived_by : (o : Option ℕ) → First ρ l o → FirstDerived o
  first_derived_by none h = λ d a. let m = move_there d in h (n.numbers.fun d).0 m.0 m.1 (m.2 ∙ a)
  first_derived_by (some k) h =
      let x = h.0.0 in
      let d = derivation_there k x h.0.1 in (
        d.0,
        d.1,
        d.2 ∙ h.0.2,
        λ e b a. let m = move_there e in let c : (n.numbers.fun e).0 < k = subst (λ j. (n.numbers.fun e).0 < j) d.1 ((n.order e d.0).0 b) in
            h.1 (n.numbers.fun e).0 m.0 c m.1 (m.2 ∙ a),
      )

  pub first_derived : FirstDerived (first_with ρ l)
  first_derived = first_derived_by (first_with ρ l) (first_exact ρ l)

  -- And back.
  pub none_first : ((d : Derivation S M E) → d.action ≡ ρ → ⊥) → first_with ρ l ≡ none
  none_first h = go (first_with ρ l) first_derived
    where
      go : (o : Option ℕ) → FirstDerived o → o ≡ none
      go none f = refl
      go (some k) f = absurd (h f.0 f.2)

  pub some_first : (d : Derivation S M E) → d.action ≡ ρ → ((e : Derivation S M E) → Earlier e d → e.action ≡ ρ → ⊥) → first_with ρ l ≡ some (n.numbers.fun d).0
  some_first d a h = go (first_with ρ l) first_derived
    where
      go : (o : Option ℕ) → FirstDerived o → o ≡ some (n.numbers.fun d).0
      go none f = absurd (f d a)
      go (some k) f = meet (at_most_or k (n.numbers.fun d).0) (at_most_or (n.numbers.fun d).0 k)
        where
          meet : (k ≤ (n.numbers.fun d).0) ⊎ ((n.numbers.fun d).0 < k) → ((n.numbers.fun d).0 ≤ k) ⊎ (k < (n.numbers.fun d).0) → some k ≡ some (n.numbers.fun d).0
          meet (inr i) j = let b : (n.numbers.fun d).0 < (n.numbers.fun f.0).0 = omega (arith, f.1, i) in absurd (f.3 d ((n.order d f.0).1 b) a)
          meet (inl i) (inr j) = let b : (n.numbers.fun f.0).0 < (n.numbers.fun d).0 = omega (arith, f.1, j) in absurd (h f.0 ((n.order f.0 d).1 b) f.2)
          meet (inl i) (inl j) = let e : k ≡ (n.numbers.fun d).0 = omega (arith, i, j) in ap {B = Option ℕ} some e
