-- What the walk, the search in a part and that in a shared term answer, of an answer, a store or a path array that is the same (document 01, "Moves, in
-- order").
use mathlib.Core.Path.{◌≡◌, refl, sym, subst}
use mathlib.Core.List.{List}
use Prim.Native.Nat.{ℕ}
use Rattle.derivation.specs.declared.arrays.Arrays.{Arrays}
use Rattle.derivation.specs.declared.arrays.Derivation.{Derivation}
use Rattle.derivation.specs.declared.arrays.Derivation.TheVariants.{Behind}
use Rattle.derivation.specs.declared.arrays.Walked.{Walked}
use Rattle.derivation.specs.declared.arrays.Walked.TheVariants.{Found as Seen, Passed, Full}
use Rattle.derivation.specs.Derived.{Derived}
use Rattle.derivation.specs.Lending.{answered}
use Rattle.derivation.specs.Laws.Answers.{same_rest, no_rest, not_lost}
use Rattle.sharing.specs.Seeking.{Sought}
use Rattle.sharing.specs.Finding.{Found}
use Rattle.sharing.specs.Walking.{Spot, spot_at, spot_behind, found_in}
use Rattle.sharing.proofs.Spots.{rest_no_place, lost_no_place}

pub derived_as : {s M : List ℕ} {k : ℕ} {entry exit : List ℕ} {n : ℕ} {r q : Derivation} → r ≡ q → Derived s M k entry exit n r → Derived s M k entry exit n q
derived_as {s} {M} {k} {entry} {exit} {n} {r} {q} e h = subst (λ d. Derived s M k entry exit n d) e h

pub sought_as : {s M : List ℕ} {k : ℕ} {entry exit : List ℕ} {n : ℕ} {r q : Derivation} → r ≡ q → Sought s M k entry exit n r → Sought s M k entry exit n q
sought_as {s} {M} {k} {entry} {exit} {n} {r} {q} e h = subst (λ d. Sought s M k entry exit n d) e h

pub found_as : {u s M : List ℕ} {k : ℕ} {entry exit : List ℕ} {n : ℕ} {r q : Spot} → r ≡ q → Found u s M k entry exit n r → Found u s M k entry exit n q
found_as {u} {s} {M} {k} {entry} {exit} {n} {r} {q} e h = subst (λ d. Found u s M k entry exit n d) e h

pub no_place : (e : Arrays) (r : Walked) → (r ≡ Seen → ⊥) → (a i : ℕ) → found_in e r ≡ spot_at a i → ⊥
no_place e Seen h a i f = h refl
no_place e Passed h a i f = rest_no_place f
no_place e Full h a i f = lost_no_place f

-- of a walk that found no path
pub passing_found : {j a : ℕ} (e : Arrays) (r : Walked) → answered e r ≡ Behind j a → found_in e r ≡ spot_behind j a
passing_found e Seen h = no_rest h
passing_found e Passed h = let w = same_rest h in (λ i. spot_behind (w.0 i) (w.1 i))
passing_found {j} {a} e Full h = not_lost {r = Behind j a} tt (sym h)

pub sought_store : {s M N : List ℕ} {k : ℕ} {entry exit : List ℕ} {n : ℕ} {r : Derivation} → N ≡ M → Sought s N k entry exit n r → Sought s M k entry exit n r
sought_store {s} {M} {N} {k} {entry} {exit} {n} {r} e h = subst (λ m. Sought s m k entry exit n r) e h

pub sought_path : {s M : List ℕ} {k : ℕ} {entry mid exit : List ℕ} {n : ℕ} {r : Derivation} → exit ≡ mid → Sought s M k entry mid n r → Sought s M k entry exit n r
sought_path {s} {M} {k} {entry} {mid} {exit} {n} {r} e h = subst (λ p. Sought s M k entry p n r) (sym e) h

pub found_path : {u s M : List ℕ} {k : ℕ} {entry mid exit : List ℕ} {n : ℕ} {r : Spot} → exit ≡ mid → Found u s M k entry mid n r → Found u s M k entry exit n r
found_path {u} {s} {M} {k} {entry} {mid} {exit} {n} {r} e h = subst (λ p. Found u s M k entry p n r) (sym e) h
