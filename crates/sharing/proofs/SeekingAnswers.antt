-- Answers of the search for a part's path, put together and taken apart (document 01, "Moves, in order").
use mathlib.Core.Path.{◌≡◌, subst}
use mathlib.Core.List.{List}
use Prim.Native.Nat.{ℕ, ◌+◌, ◌≤◌}
use native.Mathlib.Omega.{arith}
use lib.ListN.{length}
use Rattle.eb3.specs.Scopes.{Scope}
use Rattle.eb3.specs.Terms.{Term}
use Rattle.eb3.specs.Sizes.{size}
use Rattle.listing.specs.Listing.{TermAt, holding, room}
use Rattle.paths.specs.Paths.{path}
use Rattle.paths.proofs.PathLaws.{path_length}
use Rattle.derivation.specs.declared.arrays.Derivation.{Derivation}
use Rattle.derivation.specs.declared.arrays.Derivation.TheVariants.{At}
use Rattle.derivation.specs.Derived.{Roomed, Placed, move_count, Derived}
use Rattle.derivation.specs.Arms.{Outcome}
use Rattle.derivation.specs.Laws.Answers.{place_room}
use Rattle.derivation.specs.Laws.Outcomes.{outcome_place}
use Rattle.sharing.specs.Shared.{Unmasked}
use Rattle.sharing.specs.Seeking.{SomeOutcome, Sought}

-- What is shown of each term E that the words searched may begin with, rest being the words after it.
abbrev pub Told : List ℕ → ℕ → List ℕ → List ℕ → ℕ → Derivation → Scope → Term → List ℕ → Type 0
Told M k entry exit n r P E rest =
    Unmasked E → (size P.edition.width E ≤ length entry → room (holding M) E ≤ n → Roomed r) × (Roomed r → SomeOutcome (move_count M E) (path P.edition.width 0 (holding M) E k) k exit r)

pub sought_of : {s M : List ℕ} {k : ℕ} {entry exit : List ℕ} {n : ℕ} {r : Derivation} → length exit ≡ length entry → Placed 65535 k (length entry) r
    → ((P : Scope) (E : Term) (rest : List ℕ) → TermAt s P E rest → Told M k entry exit n r P E rest) → Sought s M k entry exit n r
sought_of e h f = record {
  same_length = e;
  placed = h;
  has_room = λ P E rest t u. (f P E rest t u).0;
  right = λ P E rest t u. (f P E rest t u).1;
}

-- where a term is shorter than the array by w or more, there is room for w words before its path
pub outcome_room : (width : ℕ) (M : List ℕ) (E : Term) {exit : List ℕ} {k l : ℕ} {r : Derivation} → SomeOutcome (move_count M E) (path width 0 (holding M) E k) k exit r → Placed 65535 k l r → length exit ≡ l
    → (w : ℕ) → w + size width E ≤ l → (i : ℕ) → r ≡ At i → w ≤ i
outcome_room width M E {exit} {k} {l} {r} h b e w few i f =
    let o = subst (λ d. Outcome (move_count M E) (path width 0 (holding M) E k) h.0 k exit d) f h.1 in
    place_room w i exit (path width 0 (holding M) E k) (omega (arith, b.place i f)) (outcome_place o).1 (omega (arith, path_length width 0 (holding M) E k))

-- ── the left operand, whose end was looked for ──

pub derived_outcome : {s M : List ℕ} {k : ℕ} {entry exit : List ℕ} {n : ℕ} {r : Derivation} → Derived s M k entry exit n r → (P : Scope) (E : Term) (rest : List ℕ) → TermAt s P E rest → Roomed r
    → Outcome (move_count M E) (path P.edition.width 0 (holding M) E k) (length rest) k exit r
derived_outcome h P E rest t z = record { found = h.found P E rest t z; none_found = h.none_found P E rest t z }
