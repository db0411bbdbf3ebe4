-- The answer of a walk with its numbers, by what it is: the path was found or not (document 01, "Moves, in order").
use mathlib.Core.Path.{◌≡◌, refl, sym, ap, subst}
use mathlib.Core.List.{List, ◌++◌}
use Prim.Native.Nat.{ℕ, ◌≤◌}
use native.Mathlib.Omega.{arith}
use lib.ListN.{length, take, drop, length-append, length-drop}
use lib.Seq.{length-take-le}
use Rattle.eb3.specs.Terms.{Term}
use Rattle.derivation.specs.declared.arrays.Arrays.{Arrays}
use Rattle.derivation.specs.declared.arrays.Derivation.{Derivation}
use Rattle.derivation.specs.declared.arrays.Derivation.TheVariants.{At}
use Rattle.derivation.specs.declared.arrays.Walked.{Walked}
use Rattle.derivation.specs.declared.arrays.Walked.TheVariants.{Found, Passed, Full}
use Rattle.derivation.specs.Derived.{DerivedShown}
use Rattle.derivation.specs.Arms.{Decided, OperandsDerived}
use Rattle.derivation.specs.Lending.{Kept, answered}
use Rattle.derivation.specs.Laws.Answers.{no_rest, not_lost}
use Rattle.derivation.proofs.Answers.{derived_as}

pub kept_same : (e : Arrays) → Kept e e
kept_same e = record { store = refl; path = refl; acts = refl; path_length = refl; acts_length = refl }

-- ── what a walk answers ──

pub walk_as : {x : ℕ} {s M : List ℕ} {k : ℕ} {entry exit : List ℕ} {n : ℕ} (e : Arrays) {r w : Walked} → r ≡ w → DerivedShown x s M k entry exit n (answered e r) → DerivedShown x s M k entry exit n (answered e w)
walk_as e h g = derived_as (ap (answered e) h) g

pub no_place : (e : Arrays) (r : Walked) → (r ≡ Found → ⊥) → (i : ℕ) → answered e r ≡ At i → ⊥
no_place e Found h i f = h refl
no_place e Passed h i f = no_rest (sym f)
no_place e Full h i f = not_lost {r = At i} tt (sym f)

-- what is before the place q was written anew
pub whole_back : (q : ℕ) (mid back : List ℕ) → length back ≡ length (take q mid) → q ≤ length mid → length (back ++ drop q mid) ≡ length mid
whole_back q mid back h l = omega (arith, h, length-append back (drop q mid), length-take-le q mid l, length-drop q mid)

-- ── the same of a path array that is the same ──

pub derived_path : {x : ℕ} {s M : List ℕ} {k : ℕ} {entry mid exit : List ℕ} {n : ℕ} {r : Derivation} → exit ≡ mid → DerivedShown x s M k entry mid n r → DerivedShown x s M k entry exit n r
derived_path {x} {s} {M} {k} {entry} {mid} {exit} {n} {r} e h = subst (λ p. DerivedShown x s M k entry p n r) (sym e) h

pub operands_path : {w : ℕ} {count : Term → Term → ℕ} {p : ℕ → Term → Term → List ℕ} {t M : List ℕ} {k : ℕ} {entry mid exit : List ℕ} {n : ℕ} {r : Derivation} → exit ≡ mid
    → OperandsDerived w count p t M k entry mid n r → OperandsDerived w count p t M k entry exit n r
operands_path {w} {count} {p} {t} {M} {k} {entry} {mid} {exit} {n} {r} e h = subst (λ o. OperandsDerived w count p t M k entry o n r) (sym e) h

-- ── a decision before a path ──

-- none is written before an answer that is no place
pub decided_other : (e : Arrays) (r : Walked) (o : List ℕ) (x : List ℕ) → (r ≡ Found → ⊥) → Decided o (answered e r) x x (answered e r)
decided_other e Found o x h = absurd (h refl)
decided_other e Passed o x h = record { same_length = refl; wrote = refl }
decided_other e Full o x h = record { same_length = refl; wrote = refl }
