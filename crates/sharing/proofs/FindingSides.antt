-- A parallel of shared terms: its one move where both sides are done, else the left side's moves and then the right side's (document 01, "Moves, in order").
use mathlib.Core.Path.{◌≡◌, refl, sym, ap, ◌∙◌, subst}
use mathlib.Core.Bool.{Bool, true, false, ◌&&◌}
use mathlib.Core.List.{List, ◌∷◌, ◌++◌, append_assoc}
use Prim.Native.Nat.{ℕ, ◌+◌, ◌-◌, ◌≤◌, ◌<◌}
use native.Mathlib.Omega.{arith}
use lib.Dec.{eqb}
use borrow.Author.Tests.{eqb-true, eqb-false}
use lib.ListN.{length, drop, get_or, length-drop}
use Rattle.eb3.specs.Scopes.{Scope}
use Rattle.eb3.specs.Terms.{done?}
use Rattle.words.specs.Checking.{last_of}
use Rattle.words.specs.Laws.Checking.{last_behind, last_len}
use Rattle.listing.specs.Listing.{holding}
use Rattle.derivation.specs.Derived.{move_count}
use Rattle.derivation.specs.Laws.Answers.{by_order}
use Rattle.sharing.specs.Shared.{Shared, Ended, Beside, term_of, shared_words, Stands}
use Rattle.sharing.specs.Walking.{Spot, spot_at, spot_behind, no_spot}
use Rattle.sharing.specs.Finding.{joined, Found}
use Rattle.sharing.proofs.Spots.{same_behind, rest_no_place, lost_no_place, lost_no_rest, spotted_lost, spotted_at, spotted_passed, spotted_more}
use Rattle.sharing.proofs.FindingMoves.{moves_joined, count_sides}
use Rattle.sharing.proofs.FindingForms.{front_word, shared_front, when_ended, not_ended, beside_cases}
use Rattle.sharing.proofs.FindingPlaces.{right_self, right_left, right_right}
use Rattle.sharing.proofs.FindingCases.{Told, found_of}

-- ── both sides are done ──

module _ (u t v M : List ℕ) (k : ℕ) (entry : List ℕ) (n : ℕ) (isv : v ≡ drop 1 t) (first_done : get_or t 0 0 ≡ 30) (second_done : get_or v 0 0 ≡ 30) where
  module _ (S T : Shared) (rest : List ℕ) (i : t ≡ shared_words S ++ (shared_words T ++ rest)) where
    is_left : S ≡ Ended
    is_left = when_ended S (sym (shared_front S (shared_words T ++ rest)) ∙ sym (ap (λ z. get_or z 0 0) i) ∙ first_done)

    behind_left : v ≡ shared_words T ++ rest
    unfolding shared_words
    behind_left = isv ∙ ap (drop 1) (i ∙ ap (λ X. shared_words X ++ (shared_words T ++ rest)) is_left)

    is_right : T ≡ Ended
    is_right = when_ended T (sym (shared_front T rest) ∙ sym (ap (λ z. get_or z 0 0) behind_left) ∙ second_done)

    behind_right : drop 1 v ≡ rest
    unfolding shared_words
    behind_right = ap (drop 1) (behind_left ∙ ap (λ X. shared_words X ++ rest) is_right)

    one_move : move_count M (term_of (Beside S T)) ≡ 1
    unfolding term_of done?
    one_move = ap length (moves_joined (holding M) (term_of S) (term_of T) (λ j. done? (term_of (is_left j)) && done? (term_of (is_right j))))

  pub beside_joined : (r : Spot) → k ≡ 0 → r ≡ spot_at (length t + 1) 0 → Found u (25 ∷ t) M k entry entry n r
  unfolding shared_words
  beside_joined r z e =
      found_of refl (spotted_at (length (25 ∷ t)) (length (25 ∷ t)) k (length entry) (length t + 1) 0 r e (omega arith) (omega arith))
      (λ P. beside_cases t (Told u M k entry entry n r P) (λ S T rest i st x y.
      let w : length t + 1 ≡ length (shared_words (Beside S T) ++ rest) = omega (arith, ap length (i ∙ sym (append_assoc (shared_words S) (shared_words T) rest))) in (
        λ c. right_self 0 (joined (λ j. Beside (is_left S T rest i j) (is_right S T rest i j)) z) (e ∙ ap (λ m. spot_at m 0) w),
        λ c. absurd (omega (arith, one_move S T rest i)),
      )))

  pub beside_past : (left : ℕ) (r : Spot) → (k ≡ 0 → ⊥) → left ≡ length (drop 1 v) → r ≡ spot_behind (k - 1) left → Found u (25 ∷ t) M k entry entry n r
  beside_past left r z il e =
      let few : left ≤ length t = omega (arith, ap length isv, length-drop 1 t, length-drop 1 v) in
      found_of refl (spotted_passed (length (25 ∷ t)) (length (25 ∷ t)) k (length entry) (k - 1) left r e (omega arith) (omega arith))
      (λ P. beside_cases t (Told u M k entry entry n r P) (λ S T rest i st x y. (
        λ c. absurd (omega (arith, one_move S T rest i)),
        λ c. e ∙ (λ j. spot_behind (k - sym (one_move S T rest i) j) ((il ∙ ap length (behind_right S T rest i)) j)),
      )))

-- ── one side moves ──

by_equal : {A : Type 0} (a b : ℕ) → (a ≡ b → A) → ((a ≡ b → ⊥) → A) → A
by_equal {A} a b f g = go (eqb a b) refl
  where
    go : (c : Bool) → eqb a b ≡ c → A
    go true e = f (eqb-true a b e)
    go false e = g (eqb-false a b e)

and_false : (b : Bool) → (b && false) ≡ false
and_false true = refl
and_false false = refl

-- Not both words say done.
abbrev pub Apart : List ℕ → Type 0
Apart t = get_or t 0 0 ≡ 30 → get_or (drop 1 t) 0 0 ≡ 30 → ⊥

pub apart_first : (t : List ℕ) (w : ℕ) → w ≡ get_or t 0 0 → (w ≡ 30 → ⊥) → Apart t
apart_first t w a h e f = h (a ∙ e)

pub apart_second : (t v : List ℕ) (w : ℕ) → v ≡ drop 1 t → w ≡ get_or v 0 0 → (w ≡ 30 → ⊥) → Apart t
apart_second t v w b a h e f = h (a ∙ ap (λ z. get_or z 0 0) b ∙ f)

module _ (u t M : List ℕ) (k : ℕ) (entry mid : List ℕ) (n : ℕ) (apart : Apart t) where
  module _ (P : Scope) (S T : Shared) (rest : List ℕ) (i : t ≡ shared_words S ++ (shared_words T ++ rest)) (st : Stands u P (Beside S T)) where
    not_both : (done? (term_of S) && done? (term_of T)) ≡ false
    unfolding shared_words
    not_both = by_equal (front_word S) 30
        (λ e.
        let b : drop 1 t ≡ shared_words T ++ rest = ap (drop 1) (i ∙ ap (λ X. shared_words X ++ (shared_words T ++ rest)) (when_ended S e)) in
        let d : done? (term_of T) ≡ false = not_ended u P T st.1 (λ f. apart (ap (λ z. get_or z 0 0) i ∙ shared_front S (shared_words T ++ rest) ∙ e) (ap (λ z. get_or z 0 0) b ∙ shared_front T rest ∙ f)) in
        ap (λ x. done? (term_of S) && x) d ∙ and_false (done? (term_of S)))
        (λ h. ap (λ x. x && done? (term_of T)) (not_ended u P S st.0 h))

    counted : move_count M (term_of (Beside S T)) ≡ move_count M (term_of S) + move_count M (term_of T)
    unfolding term_of
    counted = count_sides (holding M) (term_of S) (term_of T) not_both

  pub beside_left : (a q : ℕ) → Found u t M k entry mid n (spot_at a q) → Found u (25 ∷ t) M k entry mid n (spot_at a q)
  beside_left a q first =
      found_of first.same_length (spotted_more (length (25 ∷ t)) (length (25 ∷ t)) k (length entry) first.spotted (omega arith) (omega arith) (omega arith) (omega arith))
      (λ P. beside_cases t (Told u M k entry mid n (spot_at a q) P) (λ S T rest i st x y.
      let w : k < move_count M (term_of S) = by_order k (move_count M (term_of S)) (λ c. c) (λ c. rest_no_place (sym (first.none_found P S (shared_words T ++ rest) i st.0 x y c))) in (
        λ c. right_left (not_both P S T rest i st) st.1 w (first.found P S (shared_words T ++ rest) i st.0 x y w),
        λ c. absurd (omega (arith, w, counted P S T rest i st)),
      )))

  pub beside_lost : Found u t M k entry mid n no_spot → Found u (25 ∷ t) M k entry mid n no_spot
  beside_lost first = found_of first.same_length (spotted_lost (length (25 ∷ t)) (length (25 ∷ t)) k (length entry))
      (λ P. beside_cases t (Told u M k entry mid n no_spot P) (λ S T rest i st x y.
      let no : ⊥ =
      by_order k (move_count M (term_of S)) (λ c. lost_no_place (first.found P S (shared_words T ++ rest) i st.0 x y c).answered) (λ c. lost_no_rest (first.none_found P S (shared_words T ++ rest) i st.0 x y c)) in
      (λ b. absurd no, λ b. absurd no)))

  module _ (j left : ℕ) (first : Found u t M k entry mid n (spot_behind j left)) where
    -- the left side's moves are passed
    past : (P : Scope) (S T : Shared) (rest : List ℕ) → t ≡ shared_words S ++ (shared_words T ++ rest) → Stands u P (Beside S T) → length u ≤ length entry → length u ≤ n
        → (move_count M (term_of S) ≤ k) × (j ≡ k - move_count M (term_of S)) × (left ≡ length (shared_words T ++ rest))
    past P S T rest i st x y = by_order k (move_count M (term_of S)) (λ c. rest_no_place (first.found P S (shared_words T ++ rest) i st.0 x y c).answered)
        (λ c. let w = same_behind (first.none_found P S (shared_words T ++ rest) i st.0 x y c) in (c, w.0, w.1))

    pub beside_right : (v exit : List ℕ) (m : ℕ) (r : Spot) → v ≡ last_of left t → m ≡ n → Found u v M j mid exit m r → Found u (25 ∷ t) M k entry exit n r
    beside_right v exit m r isv ism h =
        let few = last_len _ t v isv in
        found_of (h.same_length ∙ first.same_length)
        (spotted_more (length (25 ∷ t)) (length (25 ∷ t)) k (length entry) h.spotted (omega (arith, few)) (omega (arith, few)) (first.spotted.rest j left refl).0 (omega (arith, first.same_length)))
        (λ P. beside_cases t (Told u M k entry exit n r P) (λ S T rest i st x y.
        let c = past P S T rest i st x y in
        let e : v ≡ shared_words T ++ rest = isv ∙ (λ j. last_of (c.2 j) (i j)) ∙ last_behind (shared_words S) (shared_words T ++ rest) in
        let p : length u ≤ length mid = omega (arith, first.same_length) in
        let q : length u ≤ m = omega arith in
        let both = counted P S T rest i st in (
          λ z. right_right (not_both P S T rest i st) k st.0 c.0 c.1 (h.found P T rest e st.1 p q (omega (arith, c.1, c.0, both))),
          λ z.
              let w : j - move_count M (term_of T) ≡ k - move_count M (term_of (Beside S T)) = omega (arith, c.1, both) in
              h.none_found P T rest e st.1 p q (omega (arith, c.1, c.0, both)) ∙ ap (λ a. spot_behind a (length rest)) w,
        )))

-- Of a store that is the same.
pub at_store : {u s M N : List ℕ} {k : ℕ} {entry exit : List ℕ} {n : ℕ} {r : Spot} → N ≡ M → Found u s N k entry exit n r → Found u s M k entry exit n r
at_store {u} {s} {M} {N} {k} {entry} {exit} {n} {r} e h = subst (λ m. Found u s m k entry exit n r) e h
