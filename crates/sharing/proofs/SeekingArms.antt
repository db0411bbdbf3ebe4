-- Each form of a term: from its operands' answers to its own (document 01, "Moves, in order").
use mathlib.Core.Path.{◌≡◌, refl, sym, ◌∙◌, subst}
use mathlib.Core.Bool.{Bool, true, false, ◌&&◌}
use mathlib.Core.List.{List, [], ◌∷◌, ◌++◌}
use Prim.Native.Nat.{ℕ, ◌+◌, ◌-◌, ◌/◌, ◌%◌, ◌≤◌, ◌<◌}
use native.Mathlib.Omega.{arith}
use lib.ListN.{length, drop, get_or}
use Rattle.eb3.specs.Scopes.{Scope}
use Rattle.eb3.specs.Terms.{Term, Done, Guard, done?}
use Rattle.eb3.specs.Sizes.{size}
use Rattle.eb3.proofs.Laws.Sizes.{size_pos}
use Rattle.eb3.specs.Spelling.{words}
use Rattle.words.specs.Checking.{last_of}
use Rattle.expressions.specs.Answering.{Judged}
use Rattle.listing.specs.Listing.{TermAt, holding}
use Rattle.listing.specs.Positions.{TwoAt, MaskedAt}
use Rattle.listing.specs.Laws.Positions.{term_front, second_at}
use Rattle.listing.specs.Laws.ByCode.{NoOther, by_rest}
use Rattle.listing.specs.Laws.CasesByCode.{internal_cases, perform_cases, sequence_cases, choice_cases, star_cases, parallel_cases, guard_cases}
use Rattle.listing.specs.Laws.Rooms.{room_after_done, room_sequence, room_choice, room_star, room_zero, room_guard}
use Rattle.listing.specs.Laws.Operands.{BothDone, first_done, first_other, second_behind, truth_none, truth_some, holds, guarded_here, front_form}
use Rattle.paths.specs.Paths.{path}
use Rattle.derivation.specs.declared.arrays.Derivation.{Derivation}
use Rattle.derivation.specs.declared.arrays.Derivation.TheVariants.{At, Behind}
use Rattle.derivation.specs.Derived.{Roomed, Placed, move_count, Derived}
use Rattle.derivation.specs.Arms.{Decided}
use Rattle.derivation.specs.Laws.Fits.{before_second}
use Rattle.derivation.specs.Laws.Answers.{by_order, same_place, no_rest, before_room, decided_room}
use Rattle.derivation.specs.Laws.Outcomes.{placed_more, placed_passed, placed_single, single_roomed, outcome_as, outcome_early, outcome_later, outcome_none, outcome_place, outcome_passed, outcome_single, decided_outcome, decided_placed}
use Rattle.sharing.specs.Seeking.{Sought, TwoSought}
use Rattle.sharing.proofs.SeekingAnswers.{Told, sought_of, outcome_room, derived_outcome}
use Rattle.sharing.proofs.SeekingCounts.{count_done, count_internal, count_perform, count_after_done, count_sequence, count_choice, count_star, count_guard, count_shut, count_both_done, count_beside, path_after_done, path_sequence, path_choice, path_end, path_round, path_guard, path_internal, path_perform, two_first, two_second, path_both_done, path_beside}

-- ── one move ──

module _ (t M entry : List ℕ) (k n left : ℕ) (r : Derivation) (f : k ≡ 0 → r ≡ At (length entry)) (g : 1 ≤ k → r ≡ Behind (k - 1) left) (few : left ≤ 65535) where
  pub internal_sought : Sought (20 ∷ t) M k entry entry n r
  internal_sought = sought_of refl (placed_single 65535 k left (length entry) r f g few) (internal_cases t (Told M k entry entry n r)
      (λ P rest q u. (λ a b. single_roomed k left (length entry) r f g, λ z. (left, outcome_as _ _ _ (count_internal M) refl (λ l. path_internal M P.edition.width k) (outcome_single k left r entry f g)))))

  pub perform_sought : Sought (21 ∷ t) M k entry entry n r
  perform_sought = sought_of refl (placed_single 65535 k left (length entry) r f g few) (perform_cases t (Told M k entry entry n r)
      (λ P a rest q u. (λ b d. single_roomed k left (length entry) r f g, λ z. (left, outcome_as _ _ _ (count_perform M a) refl (λ l. path_perform M P.edition.width a k) (outcome_single k left r entry f g)))))

-- ── two operands ──

-- the first's end is looked for
module _ (c : ℕ) (t M : List ℕ) (k : ℕ) (entry mid : List ℕ) (n : ℕ) (same : length mid ≡ length entry) (short : length t ≤ 65535) where
  pub two_left : (l : ℕ) → Derived t M k entry mid n (At l) → (exit : List ℕ) (q : Derivation) → Decided (c ∷ []) (At l) mid exit q → TwoSought c t M k entry exit n q
  two_left l first exit q h = record {
    same_length = h.same_length ∙ same;
    placed = decided_placed h (placed_more 65535 k first.placed short (omega arith));
    has_room = λ P E F rest s u v a b d.
        let o = derived_outcome first P E (words P.edition.width F ++ rest) s.first tt in
        decided_room h tt (outcome_room P.edition.width M E (length (words P.edition.width F ++ rest), o) (placed_more 65535 k first.placed short (omega arith)) same 1 (omega (arith, a)));
    right = λ P E F rest s u v z.
        let o = derived_outcome first P E (words P.edition.width F ++ rest) s.first tt in
        let j = (outcome_place o).0 in
        (length rest, outcome_as _ _ _ refl refl (λ y. two_first M P.edition.width E F c k j) (outcome_early (move_count M E + move_count M F) (length rest) j (omega arith) (decided_outcome h z o)));
  }

  module _ (j left : ℕ) (first : Derived t M k entry mid n (Behind j left)) where
    module _ (P : Scope) (E F : Term) (rest : List ℕ) (s : TwoAt t P E F rest) where
      past : (move_count M E ≤ k) × (j ≡ k - move_count M E) × (left ≡ length (words P.edition.width F ++ rest))
      past = outcome_passed (derived_outcome first P E (words P.edition.width F ++ rest) s.first tt)

    module _ (u back exit : List ℕ) (m : ℕ) (r q : Derivation) (isu : u ≡ last_of left t) (ism : m ≡ n) (second : Sought u M j mid back m r)
        (h : Decided ((c + 1) ∷ (length t - length u) ∷ []) r back exit q) where
      second_here : (P : Scope) (E F : Term) (rest : List ℕ) → TwoAt t P E F rest → TermAt u P F rest
      second_here P E F rest s = second_at left u s (past P E F rest s).2 isu

      left_size : (P : Scope) (E F : Term) (rest : List ℕ) → TwoAt t P E F rest → length t - length u ≡ size P.edition.width E
      left_size P E F rest s = before_second t u s (second_here P E F rest s)

      second_placed : Placed 65535 k (length entry) r
      second_placed = subst (λ a. Placed 65535 k a r) same (placed_more 65535 k second.placed (omega arith) (first.placed.rest j left refl).0)

      pub two_right : TwoSought c t M k entry exit n q
      two_right = record {
        same_length = h.same_length ∙ second.same_length ∙ same;
        placed = decided_placed h second_placed;
        has_room = λ P E F rest s x y a b d.
            let v = second_here P E F rest s in
            let low = second.has_room P F rest v y (omega (arith, a, same)) (omega (arith, d)) in
            decided_room h low (outcome_room P.edition.width M F (second.right P F rest v y low) second.placed second.same_length 2 (omega (arith, a, same, size_pos P.edition.width E)));
        right = λ P E F rest s x y z.
            let v = second_here P E F rest s in
            let w = past P E F rest s in
            let o = second.right P F rest v y (before_room h z) in (
              o.0,
              outcome_as _ _ _ refl refl (λ e. (λ i. (c + 1) ∷ left_size P E F rest s i ∷ path P.edition.width 0 (holding M) F (w.1 i)) ∙ two_second M P.edition.width E F c k w.0)
                  (outcome_later (move_count M E) k w.0 w.1 (decided_outcome h z o.1)),
            );
      }

pub choice_sought : (c : ℕ) (t M : List ℕ) (k : ℕ) (entry exit : List ℕ) (n : ℕ) (r : Derivation) → TwoSought c t M k entry exit n r → c ≡ 0 → Sought (23 ∷ t) M k entry exit n r
unfolding size
choice_sought c t M k entry exit n r two e =
    let h = subst (λ i. TwoSought i t M k entry exit n r) e two in
    sought_of h.same_length h.placed (choice_cases t (Told M k entry exit n r)
    (λ P E F rest s u. (
      λ a b. h.has_room P E F rest s u.0 u.1 a (omega (arith, b, room_choice (holding M) E F)) (omega (arith, b, room_choice (holding M) E F)),
      λ z.
          let o = h.right P E F rest s u.0 u.1 z in
          (o.0, outcome_as _ _ _ (count_choice M E F) refl (λ y. path_choice M P.edition.width E F k) o.1),
    )))

-- ── a sequence ──

module _ (t M : List ℕ) (k : ℕ) (entry exit : List ℕ) (n : ℕ) (r : Derivation) where
  pub sequence_right : (u : List ℕ) → get_or t 0 0 ≡ 30 → u ≡ drop 1 t → Sought u M k entry exit n r → Sought (22 ∷ t) M k entry exit n r
  unfolding size
  sequence_right u e f h = sought_of h.same_length h.placed (sequence_cases t (Told M k entry exit n r)
      (λ P E F rest s w.
      let d = first_done s e in
      let b = second_behind s u e f in (
        λ v y. h.has_room P F rest b w.1 (omega (arith, v)) (rw (room_after_done (holding M) E F d) at y),
        λ z. let o = h.right P F rest b w.1 z in (o.0, outcome_as _ _ _ (count_after_done M E F d) refl (λ y. path_after_done M P.edition.width E F k d) o.1),
      )))

  pub sequence_left : (get_or t 0 0 ≡ 30 → ⊥) → Sought t M k entry exit n r → Sought (22 ∷ t) M k entry exit n r
  unfolding size
  sequence_left o h = sought_of h.same_length h.placed (sequence_cases t (Told M k entry exit n r)
      (λ P E F rest s w.
      let d = first_other s o in (
        λ v y. h.has_room P E (words P.edition.width F ++ rest) s.first w.0 (omega (arith, v)) (rw (room_sequence (holding M) E F d) at y),
        λ z.
            let o = h.right P E (words P.edition.width F ++ rest) s.first w.0 z in
            (o.0, outcome_as _ _ _ (count_sequence M E F d) refl (λ y. path_sequence M P.edition.width E F k d) o.1),
      )))

-- ── a star ──

module _ (t M : List ℕ) (k : ℕ) (entry exit : List ℕ) (n : ℕ) (q : Derivation) where
  pub star_end : k ≡ 0 → Decided (0 ∷ []) (At (length entry)) entry exit q → Sought (24 ∷ t) M k entry exit n q
  unfolding size
  star_end e h =
      let nk : 1 ≤ k → At (length entry) ≡ Behind (k - 1) 0 = λ z. absurd (omega arith) in
      sought_of h.same_length (decided_placed h (placed_single 65535 k 0 (length entry) (At (length entry)) (λ z. refl) nk (omega arith))) (star_cases t (Told M k entry exit n q)
      (λ P E rest s u. (
        λ v y. decided_room h tt (λ i z. omega (arith, v, same_place z)),
        λ z. (
          0,
          outcome_as _ _ _ (count_star M E) refl (λ y. path_end M P.edition.width E k e)
              (outcome_early (1 + move_count M E) 0 (omega arith) (omega arith) (decided_outcome h z (outcome_single k 0 (At (length entry)) entry (λ y. refl) nk))),
        ),
      )))

  pub star_round : (mid : List ℕ) (r : Derivation) (c : ℕ) → (k ≡ 0 → ⊥) → Sought t M (k - 1) entry mid n r → Decided (c ∷ []) r mid exit q → c ≡ 1 → Sought (24 ∷ t) M k entry exit n q
  unfolding size
  star_round mid r c e h decided isc =
      let w = subst (λ i. Decided (i ∷ []) r mid exit q) isc decided in
      sought_of (w.same_length ∙ h.same_length) (decided_placed w (placed_more 65535 k h.placed (omega arith) (omega arith))) (star_cases t (Told M k entry exit n q)
      (λ P E rest s u. (
        λ v y.
            let low = h.has_room P E rest s u (omega (arith, v)) (omega (arith, y, room_star (holding M) E)) in
            decided_room w low (outcome_room P.edition.width M E (h.right P E rest s u low) h.placed h.same_length 1 v),
        λ z.
            let o = h.right P E rest s u (before_room w z) in
            (o.0, outcome_as _ _ _ (count_star M E) refl (λ y. path_round M P.edition.width E k e) (outcome_later 1 k (omega arith) refl (decided_outcome w z o.1))),
      )))

-- ── a parallel whose mask has no label ──

module _ (d t M : List ℕ) (k : ℕ) (entry exit : List ℕ) (n : ℕ) (ist : t ≡ drop 4 d) (b : Bool) (tested : BothDone t b) (r : Derivation) where
  sides : {P : Scope} {Δ : List ℕ} {E F : Term} {rest : List ℕ} → MaskedAt d P Δ E F rest → TwoAt t P E F rest
  sides {P} {Δ} {E} {F} {rest} h = subst (λ x. TwoAt x P E F rest) (sym ist) h.sides

  pub parallel_done : (left : ℕ) (q : Derivation) → b ≡ true → (k ≡ 0 → q ≡ At (length entry)) → (1 ≤ k → q ≡ Behind (k - 1) left) → left ≤ 65535
      → Decided (0 ∷ []) q entry exit r → Sought (25 ∷ d) M k entry exit n r
  unfolding size
  parallel_done left q e a c few h =
      sought_of h.same_length (decided_placed h (placed_single 65535 k left (length entry) q a c few)) (parallel_cases d (Told M k entry exit n r) (λ P Δ E F rest s u.
      let o : (done? E && done? F) ≡ true = sym (tested P E F rest (sides s)) ∙ e in (
        λ w y. decided_room h (single_roomed k left (length entry) q a c) (λ i z. by_order k 1 (λ j. omega (arith, w, same_place (sym (a (omega arith)) ∙ z))) (λ j. no_rest (sym z ∙ c j))),
        λ z. (left, outcome_as _ _ _ (count_both_done M Δ E F o) refl (λ y. path_both_done M P.edition.width Δ E F k o) (decided_outcome h z (outcome_single k left q entry a c))),
      )))

  pub parallel_beside : (c : ℕ) → b ≡ false → TwoSought c t M k entry exit n r → c ≡ 1 → Sought (25 ∷ d) M k entry exit n r
  unfolding size
  parallel_beside c e two isc =
      let h = subst (λ i. TwoSought i t M k entry exit n r) isc two in
      sought_of h.same_length h.placed (parallel_cases d (Told M k entry exit n r) (λ P Δ E F rest s u.
      let o : (done? E && done? F) ≡ false = sym (tested P E F rest (sides s)) ∙ e in
      let w = sides s in
      let m = room_zero (holding M) Δ E F o u.0 in (
        λ v y. h.has_room P E F rest w u.1 u.2 (omega (arith, v)) (omega (arith, y, m)) (omega (arith, y, m)),
        λ i.
            let q = h.right P E F rest w u.1 u.2 i in
            (q.0, outcome_as _ _ _ (count_beside M P Δ E F o u.0 w.first.fits w.second.fits) refl (λ j. path_beside M P.edition.width Δ E F k o u.0) q.1),
      )))

-- ── a guard ──

module _ (t M u : List ℕ) (c : ℕ) (judged : Judged t M c) (isu : u ≡ last_of (c / 65536) t) (k : ℕ) where
  pub guard_shut : (entry : List ℕ) (n left : ℕ) (r : Derivation) → c % 65536 ≡ 0 → left ≤ 65535 → r ≡ Behind k left → Sought (26 ∷ t) M k entry entry n r
  guard_shut entry n left r e few q = sought_of refl (placed_passed 65535 k (length entry) left k r q few (omega arith)) (guard_cases t (Told M k entry entry n r)
      (λ P C E rest s w.
      let no = count_shut M C E (truth_none (holding M C) (sym (holds t M u c judged isu P C E rest s) ∙ e)) in (
        λ v y. subst Roomed (sym q) tt,
        λ z. (left, outcome_none (move_count M (Guard C E)) k left r _ entry no q),
      )))

  pub guard_open : (entry exit : List ℕ) (n : ℕ) (r : Derivation) → (c % 65536 ≡ 0 → ⊥) → Sought u M k entry exit n r → Sought (26 ∷ t) M k entry exit n r
  unfolding size
  guard_open entry exit n r o h = sought_of h.same_length h.placed (guard_cases t (Told M k entry exit n r)
      (λ P C E rest s w.
      let b = truth_some (holding M C) (λ e. o (holds t M u c judged isu P C E rest s ∙ e)) in
      let v = guarded_here t M u c judged isu P C E rest s in (
        λ x y. h.has_room P E rest v w (omega (arith, x)) (rw (room_guard (holding M) C E b) at y),
        λ z. let q = h.right P E rest v w z in (q.0, outcome_as _ _ _ (count_guard M C E b) refl (λ y. path_guard M P.edition.width C E k) q.1),
      )))

-- ── the first code ──

pub at_front : (s t M : List ℕ) (k : ℕ) (entry exit : List ℕ) (n w j : ℕ) (r : Derivation) → w ≡ get_or s 0 0 → t ≡ drop 1 s → w ≡ j → 0 < j → Sought (j ∷ t) M k entry exit n r → Sought s M k entry exit n r
at_front s t M k entry exit n w j r a b e z h = subst (λ u. Sought u M k entry exit n r) (sym (front_form s t w j a b e z)) h

pub other_sought : (s M : List ℕ) (k : ℕ) (entry : List ℕ) (n w left : ℕ) (r : Derivation) → w ≡ get_or s 0 0 → NoOther w → left ≤ 65535 → r ≡ Behind k left → Sought s M k entry entry n r
other_sought s M k entry n w left r a h few e = sought_of refl (placed_passed 65535 k (length entry) left k r e few (omega arith)) (λ P X rest v.
    by_rest (λ Y. Told M k entry entry n r P Y rest) w h (λ u. (λ b y. subst Roomed (sym e) tt, λ z. (left, outcome_none (move_count M Done) k left r _ entry (count_done M) e))) X (a ∙ term_front s P X rest v))
