-- A parallel: both sides' lists, one after the other or combined by the mask (document 01, "Moves, in order").
use mathlib.Core.Path.{◌≡◌, refl, sym, ap, ◌∙◌, subst}
use mathlib.Core.Bool.{Bool, true, false, ◌&&◌}
use mathlib.Core.List.{List, ◌∷◌, ◌++◌}
use Prim.Native.Nat.{ℕ, ◌+◌, ◌-◌, ◌≤◌}
use native.Mathlib.Omega.{arith}
use lib.Bits.{bit_or}
use lib.Dec.{T, eqb→eq}
use lib.ListN.{length, take, drop, length-drop}
use lib.Seq.{length-take-le, take_at, drop_at, take-take, take-append-add, slice}
use Rattle.eb3.specs.Scopes.{Scope}
use Rattle.eb3.specs.Terms.{Term, done?}
use Rattle.eb3.specs.Spelling.{words}
use Rattle.eb3.specs.Sizes.{breadth}
use Rattle.words.specs.Checking.{last_of}
use Rattle.actions.specs.Sets.{in_set, mask_set}
use Rattle.listing.specs.Listing.{TermAt, holding}
use Rattle.listing.specs.Positions.{TwoAt, MaskedAt}
use Rattle.listing.specs.Laws.Positions.{second_at}
use Rattle.listing.specs.Laws.Operands.{BothDone, behind_both}
use Rattle.listing.specs.Laws.CasesByCode.{parallel_cases}
use Rattle.listing.specs.Combining.{combined, Made, Combined}
use Rattle.std.specs.Prelude.{Option, Some, None, eqb}
use Rattle.std.proofs.lemmas.List.{drop-take}
use Rattle.listing.specs.Shown.{shown}
use Rattle.listing.specs.Laws.Shown.{mask_set_front, shown_below, shown_both_done, shown_parallel, combined_hidden, beside_idle_left, beside_idle_right, room_sides, room_combined}
use Rattle.listing.specs.Laws.Rooms.{room_both_done}
use Rattle.listing.specs.Arms.{Lists, OneListed, ShownListed, TwoListed, MaskedListed}
use Rattle.listing.proofs.Answers.{Told, listed_of, lists_to, lists_as, lists_after, first_lists, second_here}

-- t comes after the mask at the front of d
sides : (d t : List ℕ) → t ≡ drop 4 d → {P : Scope} {Δ : List ℕ} {E F : Term} {rest : List ℕ} → MaskedAt d P Δ E F rest → TwoAt t P E F rest
sides d t ist {P} {Δ} {E} {F} {rest} k = subst (λ v. TwoAt v P E F rest) (sym ist) k.sides

set_is : (d : List ℕ) {P : Scope} {Δ : List ℕ} {E F : Term} {rest : List ℕ} → MaskedAt d P Δ E F rest → mask_set d ≡ mask_set Δ
set_is d k = sym (mask_set_front d) ∙ ap mask_set k.mask

joined_is : (x y : ℕ) (d : List ℕ) → y ≡ bit_or x (mask_set d) → {P : Scope} {Δ : List ℕ} {E F : Term} {rest : List ℕ} → MaskedAt d P Δ E F rest → bit_or x (mask_set Δ) ≡ y
joined_is x y d isy k = sym (isy ∙ ap (bit_or x) (set_is d k))

module _ {x : ℕ} (d t M : List ℕ) (n : ℕ) (entry : List ℕ) (k : ℕ) (mid : List ℕ) (ist : t ≡ drop 4 d) where
  pub masked_lost_first : ShownListed x t M n entry k mid None → MaskedListed x d M n entry k mid None
  masked_lost_first h = record {
    has_room = λ P Δ E F rest s z. h.has_room P E (words P.edition.width F ++ rest) (sides d t ist s).first (omega arith);
    right = λ P Δ E F rest s. tt;
  }

  -- l words are left after the left side
  module _ (l : ℕ) (first : ShownListed x t M n entry k mid (Some l)) (same : length mid ≡ length entry) (u : List ℕ) (isu : u ≡ last_of l t) (j : ℕ) (back : List ℕ) where
    left_lists : {P : Scope} {Δ : List ℕ} {E F : Term} {rest : List ℕ} → MaskedAt d P Δ E F rest → Lists (shown x (holding M) E) (length (words P.edition.width F ++ rest)) n entry k mid l
    left_lists s = first_lists t M n entry k mid l first (sides d t ist s)

    right_here : {P : Scope} {Δ : List ℕ} {E F : Term} {rest : List ℕ} → MaskedAt d P Δ E F rest → TermAt u P F rest
    right_here s = second_here t M n entry k mid l first u isu (sides d t ist s)

    pub masked_lost_second : ShownListed x u M k mid j back None → MaskedListed x d M n entry j back None
    masked_lost_second h = record {
      has_room = λ P Δ E F rest s z. h.has_room P F rest (right_here s) (omega (arith, (left_lists s).counted, shown_below x (holding M) E));
      right = λ P Δ E F rest s. tt;
    }

    -- r words are left after the right side; both sides' numbers are those of free from the front on
    module _ (r : ℕ) (second : ShownListed x u M k mid j back (Some r)) (again : length back ≡ length mid) (nk : n ≤ k) (kj : k ≤ j) (fits : j ≤ length back) (δ : ℕ) (isδ : δ ≡ mask_set d) where
      abbrev made_of : List ℕ → List ℕ
      made_of free = combined (in_set δ) (slice 0 (k - n) free) (slice (k - n) (k - n + (j - k)) free)

      module _ {P : Scope} {Δ : List ℕ} {E F : Term} {rest : List ℕ} (s : MaskedAt d P Δ E F rest) where
        cE : List ℕ
        cE = shown x (holding M) E

        cF : List ℕ
        cF = shown x (holding M) F

        right_lists : Lists cF (length rest) k mid j back r
        unfolding cF
        right_lists = second.right P F rest (right_here s)

        both_lists : Lists (cE ++ cF) (length rest) n entry j back r
        unfolding cE
        both_lists = lists_after (left_lists s) right_lists

        before : length (take n entry) ≡ n
        before = length-take-le n entry (omega arith)

        pub kept_front : take n back ≡ take n entry
        kept_front = sym (take-take n j back (omega arith)) ∙ ap (take n) both_lists.listed ∙ take_at (take n entry) (cE ++ cF) n before

        sides_are : take (k - n + (j - k)) (drop n back) ≡ cE ++ cF
        sides_are =
            let e : n + (k - n + (j - k)) ≡ j = omega arith in
            sym (drop-take n (k - n + (j - k)) back) ∙ ap (λ i. drop n (take i back)) e ∙ ap (drop n) both_lists.listed ∙ drop_at (take n entry) (cE ++ cF) n before

        left_is : slice 0 (k - n) (drop n back) ≡ cE
        unfolding cE
        left_is =
            sym (take-take (k - n) (k - n + (j - k)) (drop n back) (omega arith)) ∙ ap (take (k - n)) sides_are
            ∙ take_at cE cF (k - n) (omega (arith, (left_lists s).counted))

        right_is : slice (k - n) (k - n + (j - k)) (drop n back) ≡ cF
        unfolding cE
        right_is = ap (drop (k - n)) sides_are ∙ drop_at cE cF (k - n) (omega (arith, (left_lists s).counted))

        mask_is : in_set δ ≡ in_set (mask_set Δ)
        mask_is = ap in_set (isδ ∙ set_is d s)

        made_is : made_of (drop n back) ≡ combined (in_set (mask_set Δ)) (shown x (holding M) E) (shown x (holding M) F)
        unfolding cE cF
        made_is = λ i. combined (mask_is i) (left_is i) (right_is i)

        count_is : k - n + (j - k) ≡ length (shown x (holding M) E) + length (shown x (holding M) F)
        unfolding cF
        count_is = omega (arith, (left_lists s).counted, right_lists.counted)

        words_left : r ≡ length rest
        words_left = right_lists.left_over

      -- combined in the part that is lent from the front on
      module _ (free : List ℕ) (isf : free ≡ drop n back) {y : List ℕ} where
        here : {c : Option ℕ} → Combined (made_of free) (k - n + (j - k)) free y c → Combined (made_of (drop n back)) (k - n + (j - k)) (drop n back) y c
        here {c} h = subst (λ v. Combined (made_of v) (k - n + (j - k)) v y c) isf h

        pub masked_lost_made : (i : ℕ) (exit : List ℕ) → Combined (made_of free) (k - n + (j - k)) free y None → MaskedListed x d M n entry i exit None
        masked_lost_made i exit made = record {
          has_room = λ P Δ E F rest s z. absurd (omega (arith, z, (here made).made, length-drop n back, count_is s, ap length (made_is s), shown_below x (holding M) E, shown_below x (holding M) F));
          right = λ P Δ E F rest s. tt;
        }

        pub masked_made : (c : ℕ) (exit : List ℕ) → Combined (made_of free) (k - n + (j - k)) free y (Some c) → exit ≡ take n back ++ y → MaskedListed x d M n entry (n + c) exit (Some r)
        masked_made c exit made isx =
            let v : Made (made_of (drop n back)) (k - n + (j - k)) (drop n back) y c = (here made).made in
            record {
              has_room = λ P Δ E F rest s z. refl;
              right = λ P Δ E F rest s.
                  let o = made_is s in
                  let e : length (take n back) ≡ n = length-take-le n back (omega arith) in
                  record {
                    left_over = words_left s;
                    counted = omega (arith, v.counted, ap length o);
                    listed =
                        ap (take (n + c)) isx ∙ ap (λ i. take (i + c) (take n back ++ y)) (sym e) ∙ take-append-add (take n back) y c
                        ∙ (λ i. kept_front s i ++ (v.front ∙ o) i);
                  };
            }

-- ── beside a side that can never move ──

-- Whether the term at the front can never move.
abbrev pub Tells : List ℕ → Bool → Type 0
Tells t b = (P : Scope) (E : Term) (rest : List ℕ) → TermAt t P E rest → b ≡ eqb (breadth E) 0

idle_is : (t : List ℕ) (b : Bool) → Tells t b → b ≡ true → (P : Scope) (E : Term) (rest : List ℕ) → TermAt t P E rest → breadth E ≡ 0
idle_is t b f e P E rest h = eqb→eq (breadth E) 0 (subst T (sym e ∙ f P E rest h) tt)

-- l words come after the left side; y is x with the mask's labels
module _ (x : ℕ) (d t u M : List ℕ) (n : ℕ) (entry : List ℕ) (m : ℕ) (exit : List ℕ) (ist : t ≡ drop 4 d) (l : ℕ) (skipped : (P : Scope) (E : Term) (rest : List ℕ) → TermAt t P E rest → l ≡ length rest) (isu : u ≡ last_of l t)
    (b : Bool) (y : ℕ) where
  right_at : {P : Scope} {Δ : List ℕ} {E F : Term} {rest : List ℕ} → MaskedAt d P Δ E F rest → TermAt u P F rest
  right_at {P} {Δ} {E} {F} {rest} h = second_at l u (sides d t ist h) (skipped P E (words P.edition.width F ++ rest) (sides d t ist h).first) isu

  pub beside_left : (r : Option ℕ) → Tells t b → b ≡ true → ShownListed y u M n entry m exit r → y ≡ bit_or x (mask_set d) → MaskedListed x d M n entry m exit r
  beside_left r f e h isy = record {
    has_room = λ P Δ E F rest k z. h.has_room P F rest (right_at k) (omega arith);
    right = λ P Δ E F rest k. lists_as n entry m exit r
        (beside_idle_left x (holding M) (mask_set Δ) E F (idle_is t b f e P E (words P.edition.width F ++ rest) (sides d t ist k).first) ∙ ap (λ v. shown v (holding M) F) (joined_is x y d isy k))
        refl (h.right P F rest (right_at k));
  }

  pub beside_lost : ShownListed y t M n entry m exit None → MaskedListed x d M n entry m exit None
  beside_lost h = record { has_room = λ P Δ E F rest k z. h.has_room P E (words P.edition.width F ++ rest) (sides d t ist k).first (omega arith); right = λ P Δ E F rest k. tt }

  -- `left` words come after the right side
  pub beside_right : (a left : ℕ) → Tells u b → b ≡ true → ((P : Scope) (E : Term) (rest : List ℕ) → TermAt u P E rest → left ≡ length rest)
      → ShownListed y t M n entry m exit (Some a) → y ≡ bit_or x (mask_set d) → MaskedListed x d M n entry m exit (Some left)
  beside_right a left f e g h isy = record {
    has_room = λ P Δ E F rest k z. refl;
    right = λ P Δ E F rest k.
        let q : Lists (shown y (holding M) E) (length (words P.edition.width F ++ rest)) n entry m exit a = h.right P E (words P.edition.width F ++ rest) (sides d t ist k).first in
        lists_to (beside_idle_right x (holding M) (mask_set Δ) E F (idle_is u b f e P F rest (right_at k)) ∙ ap (λ v. shown v (holding M) E) (joined_is x y d isy k)) (g P F rest (right_at k)) q;
  }

-- ── which of them ──

module _ (x : ℕ) (d t M : List ℕ) (n : ℕ) (entry : List ℕ) (m : ℕ) (exit : List ℕ) (ist : t ≡ drop 4 d) (b : Bool) (tested : BothDone t b) (r : Option ℕ) where
  pub parallel_done : (v : List ℕ) → b ≡ true → v ≡ drop 1 (drop 1 t) → OneListed 0 (length v) M n entry m exit r → ShownListed x (25 ∷ d) M n entry m exit r
  parallel_done v e f h = listed_of (parallel_cases d (Told x M n entry m exit r) (λ P Δ E F rest k.
      let q : (done? E && done? F) ≡ true = sym (tested P E F rest (sides d t ist k)) ∙ e in (
        λ z. h.has_room (omega (arith, room_both_done (holding M) Δ E F q)),
        lists_as n entry m exit r (shown_both_done x (holding M) Δ E F q) (ap length (f ∙ behind_both (sides d t ist k) q)) h.right,
      )))

  module _ (e : b ≡ false) (y : ℕ) (isy : y ≡ bit_or x (mask_set d)) where
    other : {P : Scope} {Δ : List ℕ} {E F : Term} {rest : List ℕ} → MaskedAt d P Δ E F rest → (done? E && done? F) ≡ false
    other {P} {Δ} {E} {F} {rest} k = sym (tested P E F rest (sides d t ist k)) ∙ e

    pub parallel_hidden : y ≡ x → TwoListed x t M n entry m exit r → ShownListed x (25 ∷ d) M n entry m exit r
    parallel_hidden f h = listed_of (parallel_cases d (Told x M n entry m exit r) (λ P Δ E F rest k.
        let s = sides d t ist k in (
          λ z. h.has_room P E F rest s (omega (arith, room_sides x (holding M) P Δ E F (other k) s.first.fits s.second.fits)),
          lists_as n entry m exit r (shown_parallel x (holding M) P Δ E F (other k) s.first.fits s.second.fits ∙ combined_hidden x (holding M) (mask_set Δ) E F (joined_is x y d isy k ∙ f)) refl (h.right P E F rest s),
        )))

    pub parallel_masked : (y ≡ x → ⊥) → MaskedListed x d M n entry m exit r → ShownListed x (25 ∷ d) M n entry m exit r
    parallel_masked f h = listed_of (parallel_cases d (Told x M n entry m exit r) (λ P Δ E F rest k.
        let s = sides d t ist k in
        let i : bit_or x (mask_set Δ) ≡ x → ⊥ = λ j. f (sym (joined_is x y d isy k) ∙ j) in (
          λ z. h.has_room P Δ E F rest k (omega (arith, room_combined x (holding M) P Δ E F (other k) s.first.fits s.second.fits i)),
          lists_as n entry m exit r (shown_parallel x (holding M) P Δ E F (other k) s.first.fits s.second.fits) refl (h.right P Δ E F rest k),
        )))
