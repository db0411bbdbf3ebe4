-- A parallel one of whose sides can never move: from the other side's answer to its own.
use mathlib.Core.Path.{◌≡◌, refl, sym, ap, ◌∙◌, subst}
use mathlib.Core.Bool.{Bool, true, false, cond}
use mathlib.Core.List.{List, [], ◌∷◌, ◌++◌}
use Prim.Native.Nat.{ℕ, ◌-◌}
use native.Mathlib.Omega.{arith}
use lib.Bits.{bit_or}
use lib.Dec.{eqb}
use lib.ListN.{length}
use Rattle.eb3.specs.Scopes.{Scope}
use Rattle.eb3.specs.Terms.{Term}
use Rattle.eb3.specs.Sizes.{size, breadth}
use Rattle.eb3.proofs.Laws.Sizes.{size_pos}
use Rattle.eb3.specs.Spelling.{words}
use Rattle.words.specs.Checking.{last_of}
use Rattle.words.specs.Laws.Checking.{last_len}
use Rattle.listing.specs.Listing.{TermAt, holding}
use Rattle.listing.specs.Positions.{TwoAt}
use Rattle.listing.specs.Laws.Positions.{second_at}
use Rattle.paths.specs.Paths.{path, idle}
use Rattle.derivation.specs.declared.arrays.Derivation.{Derivation}
use Rattle.derivation.specs.declared.arrays.Derivation.TheVariants.{At, Behind}
use Rattle.derivation.specs.Derived.{DerivedShown}
use Rattle.derivation.specs.Arms.{Decided, RightDerived, LeftDerived, listed_path, ListedDerived, masked_path, MaskedDerived}
use Rattle.derivation.specs.Laws.Fits.{before_second}
use Rattle.derivation.specs.Laws.Answers.{before_room, decided_room}
use Rattle.derivation.specs.Laws.Outcomes.{placed_more, outcome_as, outcome_place, outcome_early, decided_placed, decided_outcome}
use Rattle.derivation.proofs.Answers.{outcome_of, derived_room}
use Rattle.derivation.proofs.Arms.{Skipped, behind_placed, behind_roomed, behind_outcome}
use Rattle.derivation.proofs.Counts.{both_right, both_left}

pub skipped_at : {t u : List ℕ} {P : Scope} {E F : Term} {rest : List ℕ} {b : ℕ} → Skipped t b → u ≡ last_of b t → TwoAt t P E F rest → TermAt u P F rest
skipped_at {t} {u} {P} {E} {F} {rest} {b} h isu s = second_at b u s (h.1 P E (words P.edition.width F ++ rest) s.first) isu

-- ── the right moves ──

pub right_derived : (y : ℕ) (t u M : List ℕ) (k : ℕ) (entry mid exit : List ℕ) (n b : ℕ) (r q : Derivation) → Skipped t b → u ≡ last_of b t → DerivedShown y u M k entry mid n r → length mid ≡ length entry
    → Decided (2 ∷ (length t - length u) ∷ []) r mid exit q → RightDerived y t M k entry exit n q
right_derived y t u M k entry mid exit n b r q skipped isu walked same h = record {
  placed = decided_placed h (placed_more (length t) k walked.placed (last_len b t u isu) (omega arith));
  has_room = λ P E F rest s v w.
      let a = skipped_at skipped isu s in
      decided_room h (walked.has_room P F rest a (omega (arith, v)) (omega (arith, w))) (derived_room walked same P F rest a 2 (omega (arith, v, size_pos P.edition.width E)));
  right = λ P E F rest s z.
      let a = skipped_at skipped isu s in
      outcome_as _ _ _ refl refl (λ j. ap (λ i. 2 ∷ i ∷ path P.edition.width y (holding M) F k) (before_second t u s a)) (decided_outcome h z (outcome_of walked P F rest a (before_room h z)));
}

-- ── the left moves ──

module _ (y : ℕ) (t M : List ℕ) (k : ℕ) (entry mid : List ℕ) (n : ℕ) where
  pub left_found : (l : ℕ) → DerivedShown y t M k entry mid n (At l) → length mid ≡ length entry → (exit : List ℕ) (q : Derivation) → Decided (1 ∷ []) (At l) mid exit q → LeftDerived y t M k entry exit n q
  left_found l walked same exit q h = record {
    placed = decided_placed h walked.placed;
    has_room = λ P E F rest s v w. decided_room h tt (derived_room walked same P E (words P.edition.width F ++ rest) s.first 1 (omega (arith, v)));
    right = λ P E F rest s z.
        let o = outcome_of walked P E (words P.edition.width F ++ rest) s.first tt in
        outcome_early _ (length rest) (outcome_place o).0 (omega arith) (decided_outcome h z o);
  }

  pub left_passed : (j left : ℕ) → DerivedShown y t M k entry mid n (Behind j left) → (u : List ℕ) (b : ℕ) (r : Derivation) → u ≡ last_of left t → Skipped u b → r ≡ Behind j b → LeftDerived y t M k entry mid n r
  left_passed j left walked u b r isu skipped e = record {
    placed = behind_placed y t M k entry mid n j left walked u b r isu skipped e;
    has_room = λ P E F rest s v w. behind_roomed y t M k entry mid n j left walked u b r isu skipped e;
    right = λ P E F rest s z. behind_outcome y t M k entry mid n j left walked u b r isu skipped e P E F rest s (1 ∷ path P.edition.width y (holding M) E k);
  }

-- ── which of them ──

-- What the test whether a term can never move answers.
abbrev pub Idle : List ℕ → Bool → Type 0
Idle t b = (P : Scope) (E : Term) (rest : List ℕ) → TermAt t P E rest → b ≡ eqb (breadth E) 0

module _ (x δ : ℕ) (t M : List ℕ) (k : ℕ) (entry exit : List ℕ) (n : ℕ) (r : Derivation) (a : Bool) (left : Idle t a) where
  left_is : {P : Scope} {E F : Term} {rest : List ℕ} → TwoAt t P E F rest → idle E ≡ a
  left_is {P} {E} {F} {rest} s = sym (left P E (words P.edition.width F ++ rest) s.first)

  pub masked_right : a ≡ true → (y : ℕ) → y ≡ bit_or x δ → RightDerived y t M k entry exit n r → MaskedDerived x δ t M k entry exit n r
  masked_right e y joined g =
      let h = subst (λ w. RightDerived w t M k entry exit n r) joined g in
      record {
        placed = h.placed;
        has_room = λ P E F rest s v w. h.has_room P E F rest s (omega (arith, v)) w;
        right = λ P E F rest s z.
            let i : idle E ≡ true = left_is s ∙ e in
            outcome_as _ _ _ (both_right M x δ E F i) refl
            (λ j. sym (ap (λ b. cond b (2 ∷ size P.edition.width E ∷ path P.edition.width (bit_or x δ) (holding M) F k) (cond (idle F) (1 ∷ path P.edition.width (bit_or x δ) (holding M) E k) (listed_path x δ M k P.edition.width E F))) i))
            (h.right P E F rest s z);
      }

  module _ (e : a ≡ false) (u : List ℕ) (c : ℕ) (skipped : Skipped t c) (isu : u ≡ last_of c t) (b : Bool) (right : Idle u b) where
    right_is : {P : Scope} {E F : Term} {rest : List ℕ} → TwoAt t P E F rest → idle F ≡ b
    right_is {P} {E} {F} {rest} s = sym (right P F rest (skipped_at skipped isu s))

    later : {P : Scope} {E F : Term} {rest : List ℕ} → TwoAt t P E F rest → masked_path x δ M k P.edition.width E F ≡ cond b (1 ∷ path P.edition.width (bit_or x δ) (holding M) E k) (listed_path x δ M k P.edition.width E F)
    later {P} {E} {F} {rest} s =
        ap (λ i. cond i (2 ∷ size P.edition.width E ∷ path P.edition.width (bit_or x δ) (holding M) F k) (cond (idle F) (1 ∷ path P.edition.width (bit_or x δ) (holding M) E k) (listed_path x δ M k P.edition.width E F))) (left_is s ∙ e)
        ∙ ap (λ i. cond i (1 ∷ path P.edition.width (bit_or x δ) (holding M) E k) (listed_path x δ M k P.edition.width E F)) (right_is s)

    pub masked_left : b ≡ true → (y : ℕ) → y ≡ bit_or x δ → LeftDerived y t M k entry exit n r → MaskedDerived x δ t M k entry exit n r
    masked_left f y joined g =
        let h = subst (λ w. LeftDerived w t M k entry exit n r) joined g in
        record {
          placed = h.placed;
          has_room = λ P E F rest s v w. h.has_room P E F rest s (omega (arith, v)) w;
          right = λ P E F rest s z. outcome_as _ _ _ (both_left M x δ E F (right_is s ∙ f)) refl
              (λ j. sym (later s ∙ ap (λ i. cond i (1 ∷ path P.edition.width (bit_or x δ) (holding M) E k) (listed_path x δ M k P.edition.width E F)) f)) (h.right P E F rest s z);
        }

    pub masked_listed : b ≡ false → ListedDerived x δ t M k entry exit n r → MaskedDerived x δ t M k entry exit n r
    masked_listed f h = record {
      placed = h.placed;
      has_room = h.has_room;
      right = λ P E F rest s z. outcome_as _ _ _ refl refl
          (λ j. sym (later s ∙ ap (λ i. cond i (1 ∷ path P.edition.width (bit_or x δ) (holding M) E k) (listed_path x δ M k P.edition.width E F)) f)) (h.right P E F rest s z);
    }
