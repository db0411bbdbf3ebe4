-- Each form of a term but a parallel: from its operands' answers to its own.
use mathlib.Core.Path.{◌≡◌, refl, sym, ap, ◌∙◌, subst}
use mathlib.Core.Bool.{Bool, true, false}
use mathlib.Core.List.{List, [], ◌∷◌, ◌++◌}
use Prim.Native.Nat.{ℕ, ◌+◌, ◌-◌, ◌/◌, ◌%◌, ◌≤◌, ◌<◌}
use native.Mathlib.Omega.{arith}
use lib.Dec.{T}
use lib.ListN.{length, drop, get_or, length-drop}
use Rattle.eb3.specs.Scopes.{Scope}
use Rattle.eb3.specs.Terms.{Term, Perform, Sequence, VisibleAction, visible}
use Rattle.eb3.specs.Sizes.{size}
use Rattle.eb3.proofs.Laws.Sizes.{size_pos}
use Rattle.eb3.specs.Spelling.{words}
use Rattle.words.specs.Checking.{last_of}
use Rattle.words.specs.Laws.Checking.{last_len}
use Rattle.expressions.specs.Answering.{Judged}
use Rattle.actions.specs.Codes.{action_code, ActionAt}
use Rattle.actions.specs.Sets.{in_set}
use Rattle.listing.specs.Listing.{TermAt, holding, room}
use Rattle.listing.specs.Positions.{TwoAt}
use Rattle.listing.specs.Laws.Positions.{term_front, second_at}
use Rattle.listing.specs.Laws.ByCode.{NoOther, by_rest}
use Rattle.listing.specs.Laws.CasesByCode.{internal_cases, perform_cases, sequence_cases, choice_cases, star_cases, guard_cases}
use Rattle.listing.specs.Laws.Rooms.{room_after_done, room_sequence, room_choice, room_star, room_guard}
use Rattle.listing.specs.Laws.Operands.{first_done, first_other, second_behind, truth_none, truth_some, holds, guarded_here, front_form}
use Rattle.paths.specs.Paths.{path}
use Rattle.derivation.specs.declared.arrays.Derivation.{Derivation}
use Rattle.derivation.specs.declared.arrays.Derivation.TheVariants.{At, Behind, NoRoom}
use Rattle.derivation.specs.Derived.{Roomed, Placed, shown_count, Derived, DerivedShown}
use Rattle.derivation.specs.Arms.{Outcome, Decided, ActionDerived, TwoDerived}
use Rattle.derivation.specs.Laws.Fits.{before_second}
use Rattle.derivation.specs.Laws.Answers.{before_room, decided_room, same_place}
use Rattle.derivation.specs.Laws.Outcomes.{placed_lost, placed_more, placed_passed, placed_single, single_roomed, outcome_as, outcome_early, outcome_later, outcome_none, outcome_place, outcome_passed, outcome_single, decided_placed, decided_outcome}
use Rattle.derivation.proofs.Answers.{derived_of, outcome_of, derived_room}
use Rattle.derivation.proofs.Counts.{count_moves, count_done, count_internal, count_hidden, count_shows, count_after_done, count_sequence, count_choice, count_star, count_guard, count_shut, path_after_done, path_sequence, path_choice, path_end, path_round, path_guard, path_internal, path_perform, two_first, two_second}

-- What is shown of every term that may be at the beginning of the words.
abbrev pub Told : ℕ → List ℕ → ℕ → List ℕ → List ℕ → ℕ → Derivation → Scope → Term → List ℕ → Type 0
Told x M k entry exit n r P E rest = (size P.edition.width E ≤ length entry → room (holding M) E ≤ n → Roomed r) × (Roomed r → Outcome (shown_count x M E) (path P.edition.width x (holding M) E k) (length rest) k exit r)

-- ── one move ──

pub internal_derived : (x : ℕ) (t M entry : List ℕ) (k n left : ℕ) (r : Derivation) → (k ≡ 0 → r ≡ At (length entry)) → (1 ≤ k → r ≡ Behind (k - 1) left) → left ≡ length t → DerivedShown x (20 ∷ t) M k entry entry n r
internal_derived x t M entry k n left r f g e = derived_of (placed_single (length (20 ∷ t)) k left (length entry) r f g (omega (arith, e))) (internal_cases t (Told x M k entry entry n r)
    (λ P rest q. (
      λ a b. single_roomed k left (length entry) r f g,
      λ z. outcome_as _ _ _ (count_internal M x) (ap length (sym q) ∙ sym e) (λ l. path_internal M x P.edition.width k) (outcome_single k left r entry f g),
    )))

-- b is the test whether the action's number is in the set y, which is x
module _ (x : ℕ) (t : List ℕ) (k end left : ℕ) (r : Derivation) (code : ℕ) (numbered : (a : VisibleAction) (rest : List ℕ) → ActionAt t a rest → code ≡ action_code (visible a))
    (behind : (left ≤ length t) × ((a : VisibleAction) (rest : List ℕ) → ActionAt t a rest → left ≡ length rest)) (b : Bool) (y : ℕ) (tested : b ≡ in_set y code) (isy : y ≡ x) where
  tested_of : (a : VisibleAction) (rest : List ℕ) → ActionAt t a rest → b ≡ in_set x (action_code (visible a))
  tested_of a rest s = tested ∙ (λ i. in_set (isy i) (numbered a rest s i))

  pub action_hidden : b ≡ true → r ≡ Behind k left → ActionDerived x t k end r
  action_hidden h q = record {
    placed = placed_passed (length t) k end left k r q behind.0 (omega arith);
    has_room = subst Roomed (sym q) tt;
    hidden = λ a rest s f. q ∙ ap (λ n. Behind k n) (behind.1 a rest s);
    shows = λ a rest s f. absurd (subst T (sym h ∙ tested_of a rest s ∙ f) tt);
  }

  pub action_shown : b ≡ false → (k ≡ 0 → r ≡ At end) → (1 ≤ k → r ≡ Behind (k - 1) left) → ActionDerived x t k end r
  action_shown h f g = record {
    placed = placed_single (length t) k left end r f g behind.0;
    has_room = single_roomed k left end r f g;
    hidden = λ a rest s i. absurd (subst T (sym i ∙ sym (tested_of a rest s) ∙ h) tt);
    shows = λ a rest s i. (f, λ z. g z ∙ ap (λ n. Behind (k - 1) n) (behind.1 a rest s));
  }

pub perform_derived : (x : ℕ) (t M entry : List ℕ) (k n : ℕ) (r : Derivation) → ActionDerived x t k (length entry) r → DerivedShown x (21 ∷ t) M k entry entry n r
perform_derived x t M entry k n r h = derived_of (placed_more (length (21 ∷ t)) k h.placed (omega arith) (omega arith)) (perform_cases t (Told x M k entry entry n r)
    (λ P a rest q. (λ b d. h.has_room, λ z. go P.edition.width a rest q (in_set x (action_code (visible a))) refl)))
  where
    go : (w : ℕ) (a : VisibleAction) (rest : List ℕ) → ActionAt t a rest → (b : Bool) → in_set x (action_code (visible a)) ≡ b
        → Outcome (shown_count x M (Perform a)) (path w x (holding M) (Perform a) k) (length rest) k entry r
    go w a rest q true e = outcome_none _ k (length rest) r _ entry (count_hidden M x a e) (h.hidden a rest q e)
    go w a rest q false e =
        let s = h.shows a rest q e in
        outcome_as _ _ _ (count_shows M x a e) refl (λ l. path_perform M x w a k) (outcome_single k (length rest) r entry s.0 s.1)

-- ── two operands ──

module _ (x c : ℕ) (t M : List ℕ) (k : ℕ) (entry mid : List ℕ) (n : ℕ) (same : length mid ≡ length entry) where
  pub two_left : (l : ℕ) → DerivedShown x t M k entry mid n (At l) → (exit : List ℕ) (q : Derivation) → Decided (c ∷ []) (At l) mid exit q → TwoDerived x c t M k entry exit n q
  two_left l first exit q h = record {
    placed = decided_placed h first.placed;
    has_room = λ P E F rest s a b. decided_room h tt (derived_room first same P E (words P.edition.width F ++ rest) s.first 1 (omega (arith, a)));
    right = λ P E F rest s z.
        let o = outcome_of first P E (words P.edition.width F ++ rest) s.first tt in
        let j = (outcome_place o).0 in
        outcome_as _ _ _ refl refl (λ y. two_first M x P.edition.width E F c k j) (outcome_early (shown_count x M E + shown_count x M F) (length rest) j (omega arith) (decided_outcome h z o));
  }

  module _ (j left : ℕ) (first : DerivedShown x t M k entry mid n (Behind j left)) where
    module _ (P : Scope) (E F : Term) (rest : List ℕ) (s : TwoAt t P E F rest) where
      past : (shown_count x M E ≤ k) × (j ≡ k - shown_count x M E) × (left ≡ length (words P.edition.width F ++ rest))
      past = outcome_passed (outcome_of first P E (words P.edition.width F ++ rest) s.first tt)

    module _ (u back exit : List ℕ) (m : ℕ) (r q : Derivation) (isu : u ≡ last_of left t) (ism : m ≡ n)
        (second : DerivedShown x u M j mid back m r) (kept : length back ≡ length mid) (h : Decided ((c + 1) ∷ (length t - length u) ∷ []) r back exit q) where
      second_here : (P : Scope) (E F : Term) (rest : List ℕ) → TwoAt t P E F rest → TermAt u P F rest
      second_here P E F rest s = second_at left u s (past P E F rest s).2 isu

      left_size : (P : Scope) (E F : Term) (rest : List ℕ) → TwoAt t P E F rest → length t - length u ≡ size P.edition.width E
      left_size P E F rest s = before_second t u s (second_here P E F rest s)

      second_placed : Placed (length t) k (length entry) r
      second_placed = subst (λ a. Placed (length t) k a r) same (placed_more (length t) k second.placed (last_len _ t u isu) (first.placed.rest j left refl).0)

      pub two_right : TwoDerived x c t M k entry exit n q
      two_right = record {
        placed = decided_placed h second_placed;
        has_room = λ P E F rest s a b.
            let v = second_here P E F rest s in
            decided_room h (second.has_room P F rest v (omega (arith, a, same)) (omega (arith, b))) (derived_room second kept P F rest v 2 (omega (arith, a, same, size_pos P.edition.width E)));
        right = λ P E F rest s z.
            let v = second_here P E F rest s in
            let w = past P E F rest s in
            let o = outcome_of second P F rest v (before_room h z) in
            outcome_as _ _ _ refl refl (λ y. (λ i. (c + 1) ∷ left_size P E F rest s i ∷ path P.edition.width x (holding M) F (w.1 i)) ∙ two_second M x P.edition.width E F c k w.0)
            (outcome_later (shown_count x M E) k w.0 w.1 (decided_outcome h z o));
      }

pub choice_derived : (x c : ℕ) (t M : List ℕ) (k : ℕ) (entry exit : List ℕ) (n : ℕ) (r : Derivation) → TwoDerived x c t M k entry exit n r → c ≡ 0 → DerivedShown x (23 ∷ t) M k entry exit n r
unfolding size
choice_derived x c t M k entry exit n r two e =
    let h = subst (λ i. TwoDerived x i t M k entry exit n r) e two in
    derived_of (placed_more (length (23 ∷ t)) k h.placed (omega arith) (omega arith)) (choice_cases t (Told x M k entry exit n r)
    (λ P E F rest s. (
      λ a b. h.has_room P E F rest s a (rw (room_choice (holding M) E F) at b),
      λ z. outcome_as _ _ _ (count_choice M x E F) refl (λ y. path_choice M x P.edition.width E F k) (h.right P E F rest s z),
    )))

-- ── the first of two operands has no move k, and the second is passed over ──

-- What skipping a term answers.
abbrev pub Skipped : List ℕ → ℕ → Type 0
Skipped t b = (b ≤ length t) × ((P : Scope) (E : Term) (rest : List ℕ) → TermAt t P E rest → b ≡ length rest)

module _ (x : ℕ) (t M : List ℕ) (k : ℕ) (entry exit : List ℕ) (n j left : ℕ) (h : DerivedShown x t M k entry exit n (Behind j left)) (u : List ℕ) (b : ℕ) (r : Derivation)
    (isu : u ≡ last_of left t) (skipped : Skipped u b) (e : r ≡ Behind j b) where
  pub behind_placed : Placed (length t) k (length entry) r
  behind_placed = placed_passed (length t) k (length entry) b j r e (omega (arith, skipped.0, last_len _ t u isu)) (h.placed.rest j left refl).0

  pub behind_roomed : Roomed r
  behind_roomed = subst Roomed (sym e) tt

  pub behind_outcome : (P : Scope) (E F : Term) (rest : List ℕ) → TwoAt t P E F rest → (p : List ℕ) → Outcome (shown_count x M E) p (length rest) k exit r
  behind_outcome P E F rest s p =
      let w = outcome_passed (outcome_of h P E (words P.edition.width F ++ rest) s.first tt) in
      let be = skipped.1 P F rest (second_at left u s w.2 isu) in
      record { found = λ y. absurd (omega (arith, w.0)); none_found = λ y. e ∙ (λ i. Behind (w.1 i) (be i)) }

-- ── a sequence ──

module _ (x : ℕ) (t M : List ℕ) (k : ℕ) (entry exit : List ℕ) (n : ℕ) where
  pub sequence_right : (u : List ℕ) (r : Derivation) → get_or t 0 0 ≡ 30 → u ≡ drop 1 t → DerivedShown x u M k entry exit n r → DerivedShown x (22 ∷ t) M k entry exit n r
  unfolding size
  sequence_right u r e f h = derived_of (placed_more (length (22 ∷ t)) k h.placed (omega (arith, ap length f, length-drop 1 t)) (omega arith)) (sequence_cases t (Told x M k entry exit n r)
      (λ P E F rest s.
      let d = first_done s e in
      let b = second_behind s u e f in (
        λ v y. h.has_room P F rest b (omega (arith, v)) (rw (room_after_done (holding M) E F d) at y),
        λ z. outcome_as _ _ _ (count_after_done M x E F d) refl (λ y. path_after_done M x P.edition.width E F k d) (outcome_of h P F rest b z),
      )))

  module _ (o : get_or t 0 0 ≡ 30 → ⊥) where
    pub sequence_lost : DerivedShown x t M k entry exit n NoRoom → DerivedShown x (22 ∷ t) M k entry exit n NoRoom
    unfolding size
    sequence_lost h = derived_of (placed_lost (length (22 ∷ t)) k (length entry)) (sequence_cases t (Told x M k entry exit n NoRoom)
        (λ P E F rest s.
        let d = first_other s o in (
          λ v y. absurd (h.has_room P E (words P.edition.width F ++ rest) s.first (omega (arith, v)) (rw (room_sequence (holding M) E F d) at y)),
          λ z. absurd z,
        )))

    pub sequence_found : (l : ℕ) → DerivedShown x t M k entry exit n (At l) → DerivedShown x (22 ∷ t) M k entry exit n (At l)
    sequence_found l h = derived_of (placed_more (length (22 ∷ t)) k h.placed (omega arith) (omega arith)) (sequence_cases t (Told x M k entry exit n (At l))
        (λ P E F rest s.
        let d = first_other s o in (
          λ v y. tt,
          λ z.
              let w = outcome_of h P E (words P.edition.width F ++ rest) s.first tt in
              outcome_as _ _ _ (count_sequence M x E F d) refl (λ y. path_sequence M x P.edition.width E F k d) (outcome_early (shown_count x M E) (length rest) (outcome_place w).0 (omega arith) w),
        )))

    pub sequence_passed : (j left : ℕ) → DerivedShown x t M k entry exit n (Behind j left) → (u : List ℕ) (b : ℕ) (r : Derivation) → u ≡ last_of left t → Skipped u b → r ≡ Behind j b → DerivedShown x (22 ∷ t) M k entry exit n r
    sequence_passed j left h u b r isu skipped e =
        derived_of (placed_more (length (22 ∷ t)) k (behind_placed x t M k entry exit n j left h u b r isu skipped e) (omega arith) (omega arith)) (sequence_cases t (Told x M k entry exit n r)
        (λ P E F rest s. (
          λ v y. behind_roomed x t M k entry exit n j left h u b r isu skipped e,
          λ z. outcome_as _ _ _ (count_sequence M x E F (first_other s o)) refl (λ y. refl)
              (behind_outcome x t M k entry exit n j left h u b r isu skipped e P E F rest s (path P.edition.width x (holding M) (Sequence E F) k)),
        )))

-- ── a star ──

module _ (x : ℕ) (t M : List ℕ) (k : ℕ) (entry exit : List ℕ) (n : ℕ) (q : Derivation) where
  pub star_end : k ≡ 0 → Decided (0 ∷ []) (At (length entry)) entry exit q → DerivedShown x (24 ∷ t) M k entry exit n q
  unfolding size
  star_end e h =
      let nk : 1 ≤ k → At (length entry) ≡ Behind (k - 1) 0 = λ z. absurd (omega arith) in
      let sd = placed_single (length (24 ∷ t)) k 0 (length entry) (At (length entry)) (λ z. refl) nk (omega arith) in
      derived_of (decided_placed h sd) (star_cases t (Told x M k entry exit n q)
      (λ P E rest s. (
        λ v y. decided_room h tt (λ i z. omega (arith, v, same_place z)),
        λ z. outcome_as _ _ _ (count_star M x E) refl (λ y. path_end M x P.edition.width E k e)
            (outcome_early (1 + shown_count x M E) (length rest) (omega arith) (omega arith) (decided_outcome h z (outcome_single k 0 (At (length entry)) entry (λ y. refl) nk))),
      )))

  pub star_round : (mid : List ℕ) (r : Derivation) (c : ℕ) → (k ≡ 0 → ⊥) → DerivedShown x t M (k - 1) entry mid n r → length mid ≡ length entry → Decided (c ∷ []) r mid exit q → c ≡ 1 → DerivedShown x (24 ∷ t) M k entry exit n q
  unfolding size
  star_round mid r c e h same decided isc =
      let w = subst (λ i. Decided (i ∷ []) r mid exit q) isc decided in
      derived_of (placed_more (length (24 ∷ t)) k (decided_placed w h.placed) (omega arith) (omega arith)) (star_cases t (Told x M k entry exit n q)
      (λ P E rest s. (
        λ v y. decided_room w (h.has_room P E rest s (omega (arith, v)) (omega (arith, y, room_star (holding M) E))) (derived_room h same P E rest s 1 v),
        λ z. outcome_as _ _ _ (count_star M x E) refl (λ y. path_round M x P.edition.width E k e) (outcome_later 1 k (omega arith) refl (decided_outcome w z (outcome_of h P E rest s (before_room w z)))),
      )))

-- ── a guard ──

module _ (x : ℕ) (t M u : List ℕ) (c : ℕ) (judged : Judged t M c) (isu : u ≡ last_of (c / 65536) t) (k : ℕ) where
  pub guard_shut : (entry : List ℕ) (n b : ℕ) (r : Derivation) → c % 65536 ≡ 0 → Skipped u b → r ≡ Behind k b → DerivedShown x (26 ∷ t) M k entry entry n r
  guard_shut entry n b r e skipped q =
      derived_of (placed_passed (length (26 ∷ t)) k (length entry) b k r q (omega (arith, skipped.0, last_len _ t u isu)) (omega arith)) (guard_cases t (Told x M k entry entry n r)
      (λ P C E rest s.
      let no = count_shut M x C E (truth_none (holding M C) (sym (holds t M u c judged isu P C E rest s) ∙ e)) in
      let be = skipped.1 P E rest (guarded_here t M u c judged isu P C E rest s) in (
        λ v y. subst Roomed (sym q) tt,
        λ z. outcome_none _ k (length rest) r _ entry no (q ∙ ap (λ a. Behind k a) be),
      )))

  pub guard_open : (entry exit : List ℕ) (n : ℕ) (r : Derivation) → (c % 65536 ≡ 0 → ⊥) → DerivedShown x u M k entry exit n r → DerivedShown x (26 ∷ t) M k entry exit n r
  unfolding size
  guard_open entry exit n r o h = derived_of (placed_more (length (26 ∷ t)) k h.placed (omega (arith, last_len _ t u isu)) (omega arith)) (guard_cases t (Told x M k entry exit n r)
      (λ P C E rest s.
      let b = truth_some (holding M C) (λ e. o (holds t M u c judged isu P C E rest s ∙ e)) in
      let v = guarded_here t M u c judged isu P C E rest s in (
        λ w y. h.has_room P E rest v (omega (arith, w)) (rw (room_guard (holding M) C E b) at y),
        λ z. outcome_as _ _ _ (count_guard M x C E b) refl (λ y. path_guard M x P.edition.width C E k) (outcome_of h P E rest v z),
      )))

-- ── by the code at the beginning ──

pub at_front : (x : ℕ) (s t M : List ℕ) (k : ℕ) (entry exit : List ℕ) (n w j : ℕ) (r : Derivation) → w ≡ get_or s 0 0 → t ≡ drop 1 s → w ≡ j → 0 < j → DerivedShown x (j ∷ t) M k entry exit n r → DerivedShown x s M k entry exit n r
at_front x s t M k entry exit n w j r a b e z h = subst (λ u. DerivedShown x u M k entry exit n r) (sym (front_form s t w j a b e z)) h

pub other_derived : (x : ℕ) (s t M : List ℕ) (k : ℕ) (entry : List ℕ) (n w : ℕ) (r : Derivation) → w ≡ get_or s 0 0 → t ≡ drop 1 s → NoOther w → r ≡ Behind k (length t) → DerivedShown x s M k entry entry n r
unfolding words
other_derived x s t M k entry n w r a b h e =
    derived_of (placed_passed (length s) k (length entry) (length t) k r e (omega (arith, ap length b, length-drop 1 s)) (omega arith)) (λ P X rest v.
    by_rest (λ Y. TermAt s P Y rest → Told x M k entry entry n r P Y rest) w h
    (λ j.
    let be : length t ≡ length rest = ap length (b ∙ ap (drop 1) j.spelled) in (
      λ v y. subst Roomed (sym e) tt,
      λ z. outcome_none _ k (length rest) r _ entry (count_done M x) (e ∙ ap (λ a. Behind k a) be),
    )) X (a ∙ term_front s P X rest v) v)

-- ── below no mask ──

pub derived_all : {s M : List ℕ} {k : ℕ} {entry exit : List ℕ} {n : ℕ} {r : Derivation} → DerivedShown 0 s M k entry exit n r → Derived s M k entry exit n r
derived_all {s} {M} {k} h = record {
  placed = h.placed;
  has_room = h.has_room;
  found = λ P E rest t z l. h.found P E rest t z (omega (arith, count_moves M E));
  none_found = λ P E rest t z l. h.none_found P E rest t z (omega (arith, count_moves M E)) ∙ ap (λ m. Behind (k - m) (length rest)) (count_moves M E);
}
