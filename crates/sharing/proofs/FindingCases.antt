-- Each form of a shared term: from what was answered of its parts to what is answered of it (document 01, "Moves, in order").
use mathlib.Core.Path.{◌≡◌, refl, sym, ap, ◌∙◌, subst}
use mathlib.Core.Bool.{false}
use mathlib.Core.List.{List, ◌∷◌, ◌++◌}
use Prim.Native.Nat.{ℕ, ◌+◌, ◌-◌, ◌≤◌, ◌<◌}
use native.Mathlib.Omega.{arith}
use lib.ListN.{length, drop, get_or, length-drop}
use Rattle.eb3.specs.Scopes.{Scope}
use Rattle.eb3.specs.Terms.{Sequence, done?}
use Rattle.eb3.specs.Moves.{moves}
use Rattle.listing.specs.Listing.{holding}
use Rattle.listing.specs.Laws.Operands.{front_form}
use Rattle.derivation.specs.Derived.{move_count}
use Rattle.sharing.specs.Shared.{Shared, Ended, Then, term_of, part_word, shared_words, Stands}
use Rattle.sharing.specs.Walking.{Spot, spot_at, spot_behind}
use Rattle.sharing.specs.Finding.{part, resumed, FoundRight, Spotted, Found, PartFound}
use Rattle.sharing.proofs.Spots.{spotted_passed, spotted_more}
use Rattle.sharing.proofs.FindingMoves.{moves_next, count_first}
use Rattle.sharing.proofs.FindingForms.{shared_front, when_ended, not_ended, ended_cases, then_cases, part_cases}
use Rattle.sharing.proofs.FindingPlaces.{right_self, right_then}

-- ── the whole ──

-- What is shown of each shared term S that the words searched may begin with, rest being the words after it.
abbrev pub Told : List ℕ → List ℕ → ℕ → List ℕ → List ℕ → ℕ → Spot → Scope → Shared → List ℕ → Type 0
Told u M k entry exit n r P S rest = Stands u P S → length u ≤ length entry → length u ≤ n
    → (k < move_count M (term_of S) → FoundRight u P M S rest k exit r) × (move_count M (term_of S) ≤ k → r ≡ spot_behind (k - move_count M (term_of S)) (length rest))

pub found_of : {u s M : List ℕ} {k : ℕ} {entry exit : List ℕ} {n : ℕ} {r : Spot} → length exit ≡ length entry → Spotted (length s) (length s) k (length entry) r
    → ((P : Scope) (S : Shared) (rest : List ℕ) → s ≡ shared_words S ++ rest → Told u M k entry exit n r P S rest) → Found u s M k entry exit n r
found_of e h f = record {
  same_length = e;
  spotted = h;
  found = λ P S rest i s a b y. (f P S rest i s a b).0 y;
  none_found = λ P S rest i s a b y. (f P S rest i s a b).1 y;
}

-- ── done ──

pub done_found : (u t M : List ℕ) (k : ℕ) (entry : List ℕ) (n : ℕ) (r : Spot) → r ≡ spot_behind k (length t) → Found u (30 ∷ t) M k entry entry n r
unfolding term_of moves
done_found u t M k entry n r e = found_of refl (spotted_passed (length (30 ∷ t)) (length (30 ∷ t)) k (length entry) k (length t) r e (omega arith) (omega arith))
    (λ P. ended_cases t (Told u M k entry entry n r P)
    (λ rest i s a b. (λ y. absurd (omega (arith, y)), λ y. let j : k ≡ k - 0 = omega arith in e ∙ (λ x. spot_behind (j x) (length (i x))))))

-- ── a part ──

pub part_found : (u s t : List ℕ) (w : ℕ) (M : List ℕ) (k : ℕ) (entry exit : List ℕ) (n : ℕ) (r : Spot) (here left : ℕ) → w ≡ get_or s 0 0 → t ≡ drop 1 s → (w ≡ 22 → ⊥) → (w ≡ 25 → ⊥) → (w ≡ 30 → ⊥)
    → here ≡ length s → left ≡ length t → PartFound u w here left M k entry exit n r → Found u s M k entry exit n r
unfolding term_of shared_words
part_found u s t w M k entry exit n r here left a d b c g ih il h = found_of h.same_length (spotted_more (length s) (length s) k (length entry) h.spotted (omega arith) (omega (arith, ap length d, length-drop 1 s)) (omega arith) (omega arith))
    (λ P. part_cases s w a b c g (Told u M k entry exit n r P)
    (λ l E rest i st x y.
    let isw : w ≡ part_word l = a ∙ ap (λ v. get_or v 0 0) i in
    let isl : left ≡ length rest = il ∙ ap length (d ∙ ap (drop 1) i) in (
      λ z. let f = h.found P l E isw st.1 x y z in right_self f.0 (part l E refl st.1 z f.2) (f.1 ∙ ap (λ v. spot_at v f.0) (ih ∙ ap length i)),
      λ z. h.none_found P l E isw st.1 x y z ∙ ap (λ v. spot_behind (k - move_count M E) v) isl,
    )))

-- ── a sequence ──

module _ (u t v : List ℕ) (isv : v ≡ drop 1 t) (M : List ℕ) (k : ℕ) (entry exit : List ℕ) (n : ℕ) (r : Spot) where
  -- what is followed is done
  pub then_resumed : (w here left : ℕ) → get_or v 0 0 ≡ 30 → w ≡ get_or t 0 0 → here ≡ length t + 1 → left ≡ length (drop 1 v) → PartFound u w here left M k entry exit n r → Found u (22 ∷ t) M k entry exit n r
  unfolding term_of shared_words done?
  then_resumed w here left e a ih il h = found_of h.same_length
      (spotted_more (length (22 ∷ t)) (length (22 ∷ t)) k (length entry) h.spotted (omega arith) (omega (arith, ap length isv, length-drop 1 t, length-drop 1 v)) (omega arith) (omega arith))
      (λ P. then_cases t (Told u M k entry exit n r P) (λ S l F rest i st x y.
      let isS : S ≡ Ended = when_ended S (sym (shared_front S rest) ∙ sym (ap (λ z. get_or z 0 0) (isv ∙ ap (drop 1) i)) ∙ e) in
      let isw : w ≡ part_word l = a ∙ ap (λ z. get_or z 0 0) i in
      let isl : left ≡ length rest = il ∙ ap (λ z. length (drop 1 z)) (isv ∙ ap (drop 1) i) ∙ ap (λ X. length (drop 1 (shared_words X ++ rest))) isS in
      let ish : here ≡ length (shared_words (Then S l F) ++ rest) = omega (arith, ih, ap length i) in
      let mv : moves (holding M) (Sequence (term_of S) F) ≡ moves (holding M) F = moves_next (holding M) (term_of S) F (ap (λ X. done? (term_of X)) isS) in (
        λ z. let f = h.found P l F isw st.1 x y (omega (arith, ap length mv)) in
            right_self f.0 (resumed l F (ap (λ X. Then X l F) isS) st.1 (omega (arith, ap length mv)) f.2)
            (f.1 ∙ ap (λ z. spot_at z f.0) ish),
        λ z. h.none_found P l F isw st.1 x y (omega (arith, ap length mv)) ∙ (λ j. spot_behind (k - length (sym mv j)) (isl j)),
      )))

  pub then_found : (get_or v 0 0 ≡ 30 → ⊥) → Found u v M k entry exit n r → Found u (22 ∷ t) M k entry exit n r
  unfolding term_of
  then_found o h = found_of h.same_length (spotted_more (length (22 ∷ t)) (length (22 ∷ t)) k (length entry) h.spotted (omega (arith, ap length isv, length-drop 1 t)) (omega (arith, ap length isv, length-drop 1 t)) (omega arith) (omega arith))
      (λ P. then_cases t (Told u M k entry exit n r P) (λ S l F rest i st x y.
      let e : v ≡ shared_words S ++ rest = isv ∙ ap (drop 1) i in
      let d : done? (term_of S) ≡ false = not_ended u P S st.0 (λ z. o (ap (λ q. get_or q 0 0) e ∙ shared_front S rest ∙ z)) in
      let c = count_first (holding M) (term_of S) F d in (
        λ z. right_then l F d st.1 (h.found P S rest e st.0 x y (omega (arith, c))),
        λ z. h.none_found P S rest e st.0 x y (omega (arith, c)) ∙ ap (λ m. spot_behind (k - m) (length rest)) (sym c),
      )))

-- ── the first code ──

pub at_front : (u s t M : List ℕ) (k : ℕ) (entry exit : List ℕ) (n w j : ℕ) (r : Spot) → w ≡ get_or s 0 0 → t ≡ drop 1 s → w ≡ j → 0 < j → Found u (j ∷ t) M k entry exit n r → Found u s M k entry exit n r
at_front u s t M k entry exit n w j r a b e z h = subst (λ x. Found u x M k entry exit n r) (sym (front_form s t w j a b e z)) h
