-- A part of the unfolding, in which a move is looked for: there is room for its path, and what was answered of it is the answer for the word that it is held as
-- (document 01, "Moves, in order").
use mathlib.Core.Path.{◌≡◌, refl, sym, ap, ◌∙◌, subst}
use mathlib.Core.List.{List}
use Prim.Native.Nat.{ℕ, ◌-◌, ◌≤◌, ◌<◌}
use native.Mathlib.Omega.{arith}
use lib.ListN.{length, length-append}
use Rattle.eb3.specs.Scopes.{Scope}
use Rattle.eb3.specs.Terms.{Term}
use Rattle.eb3.specs.Sizes.{size}
use Rattle.eb3.specs.Spelling.{words}
use Rattle.words.specs.Checking.{last_of}
use Rattle.words.specs.Laws.Checking.{last_len}
use Rattle.listing.specs.Listing.{TermAt, holding}
use Rattle.listing.specs.Laws.Fits.{fits_length}
use Rattle.paths.specs.Paths.{path}
use Rattle.derivation.specs.declared.arrays.Derivation.{Derivation}
use Rattle.derivation.specs.declared.arrays.Derivation.TheVariants.{At, Behind, NoRoom}
use Rattle.derivation.specs.Derived.{Roomed, move_count}
use Rattle.derivation.specs.Laws.Outcomes.{outcome_place, outcome_passed}
use Rattle.sharing.specs.Shared.{part_word, PartAt}
use Rattle.sharing.specs.Laws.Rooms.{unmasked_room}
use Rattle.sharing.specs.Seeking.{SomeOutcome, Sought}
use Rattle.sharing.specs.Walking.{spot_at, spot_behind, no_spot}
use Rattle.sharing.specs.Finding.{PartFound}
use Rattle.sharing.proofs.Spots.{spotted_lost, spotted_at, spotted_passed}

part_size : (u : List ℕ) (P : Scope) (l : ℕ) (E : Term) → PartAt u P l E → size P.edition.width E ≤ length u
part_size u P l E h = omega (arith, last_len l u (last_of l u) refl, ap length h.there.spelled, length-append (words P.edition.width E) h.rest, fits_length P E h.there.fits)

-- no part has such a word
pub part_never : (u : List ℕ) (w here left : ℕ) (M : List ℕ) (k : ℕ) (entry : List ℕ) (n : ℕ) → w < 32 → PartFound u w here left M k entry entry n no_spot
part_never u w here left M k entry n z = record {
  same_length = refl;
  spotted = spotted_lost here left k (length entry);
  found = λ P l E e a b d y. absurd (omega (arith, e));
  none_found = λ P l E e a b d y. absurd (omega (arith, e));
}

module _ (u s : List ℕ) (w here left : ℕ) (M : List ℕ) (k : ℕ) (entry exit : List ℕ) (n m : ℕ) (wide : 32 ≤ w) (iss : s ≡ last_of (w - 32) u) (ism : m ≡ n) where
  module _ (r : Derivation) (h : Sought s M k entry exit m r) (P : Scope) (l : ℕ) (E : Term) (isw : w ≡ part_word l) (a : PartAt u P l E) (long : length u ≤ length entry) (room_for : length u ≤ n) where
    there : TermAt s P E a.rest
    there =
        let e : w - 32 ≡ l = omega (arith, isw) in
        subst (λ t. TermAt t P E a.rest) (sym (iss ∙ ap (λ i. last_of i u) e)) a.there

    has_room : Roomed r
    has_room = h.has_room P E a.rest there a.unmasked (omega (arith, part_size u P l E a)) (omega (arith, part_size u P l E a, unmasked_room P.edition.width (holding M) E a.unmasked))

    outcome : SomeOutcome (move_count M E) (path P.edition.width 0 (holding M) E k) k exit r
    outcome = h.right P E a.rest there a.unmasked has_room

  -- there was no room, which is never so
  pub part_lost : Sought s M k entry exit m NoRoom → PartFound u w here left M k entry exit n no_spot
  part_lost h = record {
    same_length = h.same_length;
    spotted = spotted_lost here left k (length entry);
    found = λ P l E e a b d y. absurd (has_room NoRoom h P l E e a b d);
    none_found = λ P l E e a b d y. absurd (has_room NoRoom h P l E e a b d);
  }

  pub part_placed : (i : ℕ) → Sought s M k entry exit m (At i) → PartFound u w here left M k entry exit n (spot_at here i)
  part_placed i h = record {
    same_length = h.same_length;
    spotted = spotted_at here left k (length entry) here i (spot_at here i) refl (omega arith) (h.placed.place i refl);
    found = λ P l E e a b d y. (i, refl, (outcome_place (outcome (At i) h P l E e a b d).1).1);
    none_found = λ P l E e a b d y. absurd (omega (arith, (outcome_place (outcome (At i) h P l E e a b d).1).0));
  }

  pub part_passed : (j x : ℕ) → Sought s M k entry exit m (Behind j x) → PartFound u w here left M k entry exit n (spot_behind j left)
  part_passed j x h = record {
    same_length = h.same_length;
    spotted = spotted_passed here left k (length entry) j left (spot_behind j left) refl (h.placed.rest j x refl).0 (omega arith);
    found = λ P l E i a b d y. absurd (omega (arith, (outcome_passed (outcome (Behind j x) h P l E i a b d).1).0));
    none_found = λ P l E i a b d y. ap (λ z. spot_behind z left) (outcome_passed (outcome (Behind j x) h P l E i a b d).1).1;
  }
