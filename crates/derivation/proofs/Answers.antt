-- The answer for a term that is at the beginning of the words, put together and taken apart.
use mathlib.Core.Path.{◌≡◌, subst}
use mathlib.Core.List.{List}
use Prim.Native.Nat.{ℕ, ◌+◌, ◌≤◌}
use native.Mathlib.Omega.{arith}
use lib.ListN.{length}
use Rattle.eb3.specs.Scopes.{Scope}
use Rattle.eb3.specs.Terms.{Term}
use Rattle.eb3.specs.Sizes.{size}
use Rattle.listing.specs.Listing.{TermAt, holding, room}
use Rattle.paths.specs.Paths.{path}
use Rattle.paths.proofs.PathLaws.{path_length}
use Rattle.derivation.specs.declared.arrays.Derivation.{Derivation}
use Rattle.derivation.specs.declared.arrays.Derivation.TheVariants.{At}
use Rattle.derivation.specs.Derived.{Roomed, Placed, shown_count, DerivedShown}
use Rattle.derivation.specs.Arms.{Outcome}
use Rattle.derivation.specs.Laws.Answers.{place_room}
use Rattle.derivation.specs.Laws.Outcomes.{outcome_place}

-- from what is known of every term that may be there
pub derived_of : {x : ℕ} {s M : List ℕ} {k : ℕ} {entry exit : List ℕ} {n : ℕ} {r : Derivation} → Placed (length s) k (length entry) r
    → ((P : Scope) (E : Term) (rest : List ℕ) → TermAt s P E rest
    → (size P.edition.width E ≤ length entry → room (holding M) E ≤ n → Roomed r) × (Roomed r → Outcome (shown_count x M E) (path P.edition.width x (holding M) E k) (length rest) k exit r))
    → DerivedShown x s M k entry exit n r
derived_of h f = record {
  placed = h;
  has_room = λ P E rest t. (f P E rest t).0;
  found = λ P E rest t z. ((f P E rest t).1 z).found;
  none_found = λ P E rest t z. ((f P E rest t).1 z).none_found;
}

pub outcome_of : {x : ℕ} {s M : List ℕ} {k : ℕ} {entry exit : List ℕ} {n : ℕ} {r : Derivation} → DerivedShown x s M k entry exit n r → (P : Scope) (E : Term) (rest : List ℕ) → TermAt s P E rest → Roomed r
    → Outcome (shown_count x M E) (path P.edition.width x (holding M) E k) (length rest) k exit r
outcome_of h P E rest t z = record { found = h.found P E rest t z; none_found = h.none_found P E rest t z }

-- of a store that is the same
pub at_store : {x : ℕ} {s M N : List ℕ} {k : ℕ} {entry exit : List ℕ} {n : ℕ} {r : Derivation} → N ≡ M → DerivedShown x s N k entry exit n r → DerivedShown x s M k entry exit n r
at_store {x} {s} {M} {N} {k} {entry} {exit} {n} {r} e h = subst (λ m. DerivedShown x s m k entry exit n r) e h

-- of an answer that is the same
pub derived_as : {x : ℕ} {s M : List ℕ} {k : ℕ} {entry exit : List ℕ} {n : ℕ} {r q : Derivation} → r ≡ q → DerivedShown x s M k entry exit n r → DerivedShown x s M k entry exit n q
derived_as {x} {s} {M} {k} {entry} {exit} {n} {r} {q} e h = subst (λ d. DerivedShown x s M k entry exit n d) e h

-- before the path of a term whose size is at least w less than the array's length, at least w words are free
pub derived_room : {x : ℕ} {s M : List ℕ} {k : ℕ} {entry exit : List ℕ} {n : ℕ} {r : Derivation} → DerivedShown x s M k entry exit n r → length exit ≡ length entry → (P : Scope) (E : Term) (rest : List ℕ) → TermAt s P E rest
    → (w : ℕ) → w + size P.edition.width E ≤ length entry → (i : ℕ) → r ≡ At i → w ≤ i
derived_room {x} {s} {M} {k} {entry} {exit} {n} {r} h e P E rest t w l i f =
    place_room w i exit (path P.edition.width x (holding M) E k) (omega (arith, h.placed.place i f)) (outcome_place (outcome_of (derived_as f h) P E rest t tt)).1 (omega (arith, path_length P.edition.width x (holding M) E k))
