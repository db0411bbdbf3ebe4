-- Sides of a parallel: from the answers of one side or of both to that of the move they make.
use mathlib.Core.Path.{◌≡◌, refl, ap, ◌∙◌}
use mathlib.Core.List.{List, [], ◌∷◌, ◌++◌}
use Prim.Native.Nat.{ℕ, ◌+◌, ◌-◌, ◌≤◌}
use native.Mathlib.Omega.{arith}
use lib.ListN.{length, take, drop, length-drop}
use lib.Seq.{length-take-le, drop-append-le}
use Rattle.eb3.specs.Scopes.{Scope}
use Rattle.eb3.specs.Terms.{Term}
use Rattle.eb3.specs.Sizes.{size}
use Rattle.listing.specs.Listing.{TermAt, holding}
use Rattle.paths.specs.Paths.{left_alone, right_alone, together, path}
use Rattle.paths.proofs.PathLaws.{path_length}
use Rattle.derivation.specs.declared.arrays.Derivation.{Derivation}
use Rattle.derivation.specs.declared.arrays.Derivation.TheVariants.{At, Behind, NoRoom}
use Rattle.derivation.specs.Derived.{DerivedShown}
use Rattle.derivation.specs.Arms.{Decided, Made, SidesDerived}
use Rattle.derivation.specs.Laws.Fits.{size_before}
use Rattle.derivation.specs.Laws.Answers.{decided_room, decided_place}
use Rattle.derivation.specs.Laws.Outcomes.{outcome_place}
use Rattle.derivation.proofs.Answers.{outcome_of, derived_room}

-- a path that a decision was written before is in the array
decided_made : {o : List ℕ} {p : ℕ} {r : Derivation} {mid exit : List ℕ} (l : ℕ) → Decided o (At p) mid exit r → p ≤ l → Made l r
decided_made {r = At i} l h a = let w = h.wrote.0 in omega (arith, w)
decided_made {r = Behind j left} l h a = h.wrote
decided_made {r = NoRoom} l h a = tt

-- ── both ──

module _ (t u M : List ℕ) (i j : ℕ) (entry mid : List ℕ) (n : ℕ) (same : length mid ≡ length entry) where
  pub both_none_right : (q : Derivation) → DerivedShown 0 u M j entry mid n q → ((a : ℕ) → q ≡ At a → ⊥) → SidesDerived t u M (together i j) entry mid n NoRoom
  both_none_right q right none = record {
    made = tt;
    has_room = λ P E F rest x y w sz rE rF. let f = right.found P F rest y (right.has_room P F rest y (omega (arith, sz)) rF) w.1 in absurd (none f.0 f.1);
    found = λ P E F rest x y w z. absurd z;
  }

  module _ (q : ℕ) (right : DerivedShown 0 u M j entry mid n (At q)) where
    pub place_in : q ≤ length mid
    place_in = omega (arith, same, right.placed.place q refl)

    front_is : length (take q mid) ≡ q
    front_is = length-take-le q mid place_in

    module _ (P : Scope) (F : Term) (rest : List ℕ) (y : TermAt u P F rest) where
      right_path : drop q mid ≡ path P.edition.width 0 (holding M) F j
      right_path = (outcome_place (outcome_of right P F rest y tt)).1

      left_room : (e : ℕ) → 2 + e + size P.edition.width F ≤ length entry → 2 + e ≤ length (take q mid)
      left_room e h = omega (arith, front_is, same, ap length right_path, length-drop q mid, path_length P.edition.width 0 (holding M) F j)

    module _ (back : List ℕ) (m : ℕ) (ism : m ≡ n) (kept : length back ≡ length (take q mid)) where
      pub both_none_left : (p : Derivation) → DerivedShown 0 t M i (take q mid) back m p → ((a : ℕ) → p ≡ At a → ⊥) → (whole : List ℕ) → SidesDerived t u M (together i j) entry whole n NoRoom
      both_none_left p left none whole = record {
        made = tt;
        has_room = λ P E F rest x y w sz rE rF.
            let f = left.found P E u x (left.has_room P E u x (omega (arith, left_room P F rest y (size P.edition.width E) sz)) (omega (arith, rE))) w.0 in
            absurd (none f.0 f.1);
        found = λ P E F rest x y w z. absurd z;
      }

      pub both_made : (p : ℕ) → DerivedShown 0 t M i (take q mid) back m (At p) → (whole exit : List ℕ) (r : Derivation) → whole ≡ back ++ drop q mid
          → Decided (3 ∷ (length t - length u) ∷ []) (At p) whole exit r → SidesDerived t u M (together i j) entry exit n r
      both_made p left whole exit r isw h =
          let placed : p ≤ length back = omega (arith, left.placed.place p refl, kept) in
          record {
            made = decided_made (length entry) h (omega (arith, placed, kept, front_is, place_in, same));
            has_room = λ P E F rest x y w sz rE rF. decided_room h tt (derived_room left kept P E u x 2 (left_room P F rest y (size P.edition.width E) sz));
            found = λ P E F rest x y w z.
                let d = decided_place h z in
                let e = (outcome_place (outcome_of left P E u x tt)).1 in (
                  d.0,
                  d.1,
                  d.3 ∙ (λ o. 3 ∷ size_before x o ∷ (ap (drop p) isw ∙ drop-append-le p back (drop q mid) placed ∙ (λ o. e o ++ right_path P F rest y o)) o),
                );
          }

-- ── one ──

module _ (t u M : List ℕ) (i : ℕ) (entry mid : List ℕ) (n : ℕ) (same : length mid ≡ length entry) where
  pub sides_none_left : (l : Derivation) → DerivedShown 0 t M i entry mid n l → ((a : ℕ) → l ≡ At a → ⊥) → SidesDerived t u M (left_alone i) entry mid n NoRoom
  sides_none_left l walked none = record {
    made = tt;
    has_room = λ P E F rest y v w sz rE rF. let f = walked.found P E u y (walked.has_room P E u y (omega (arith, sz)) rE) w in absurd (none f.0 f.1);
    found = λ P E F rest y v w z. absurd z;
  }

  pub sides_left_made : (l : ℕ) → DerivedShown 0 t M i entry mid n (At l) → (exit : List ℕ) (r : Derivation) → Decided (1 ∷ []) (At l) mid exit r → SidesDerived t u M (left_alone i) entry exit n r
  sides_left_made l walked exit r h = record {
    made = decided_made (length entry) h (walked.placed.place l refl);
    has_room = λ P E F rest y v w sz rE rF. decided_room h tt (derived_room walked same P E u y 1 (omega (arith, sz)));
    found = λ P E F rest y v w z. let d = decided_place h z in (d.0, d.1, d.3 ∙ ap (λ o. 1 ∷ o) (outcome_place (outcome_of walked P E u y tt)).1);
  }

  pub sides_none_right : (l : Derivation) → DerivedShown 0 u M i entry mid n l → ((a : ℕ) → l ≡ At a → ⊥) → SidesDerived t u M (right_alone i) entry mid n NoRoom
  sides_none_right l walked none = record {
    made = tt;
    has_room = λ P E F rest y v w sz rE rF. let f = walked.found P F rest v (walked.has_room P F rest v (omega (arith, sz)) rF) w in absurd (none f.0 f.1);
    found = λ P E F rest y v w z. absurd z;
  }

  pub sides_right_made : (l : ℕ) → DerivedShown 0 u M i entry mid n (At l) → (exit : List ℕ) (r : Derivation) → Decided (2 ∷ (length t - length u) ∷ []) (At l) mid exit r → SidesDerived t u M (right_alone i) entry exit n r
  sides_right_made l walked exit r h = record {
    made = decided_made (length entry) h (walked.placed.place l refl);
    has_room = λ P E F rest y v w sz rE rF. decided_room h tt (derived_room walked same P F rest v 2 (omega (arith, sz)));
    found = λ P E F rest y v w z.
        let d = decided_place h z in
        let e = (outcome_place (outcome_of walked P F rest v tt)).1 in
        (d.0, d.1, d.3 ∙ (λ o. 2 ∷ size_before y o ∷ e o));
  }
