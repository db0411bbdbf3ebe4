-- A case for each way that the beginning of a parallel's successor returns. The premises have the form of the facts known there.
use mathlib.Core.Path.{◌≡◌, refl, sym, ap, ◌∙◌, subst}
use mathlib.Core.Bool.{true}
use mathlib.Core.List.{List, [], ◌∷◌, ◌++◌, append_assoc}
use Prim.Native.Nat.{ℕ, ◌+◌, ◌-◌, ◌*◌, ◌≤◌, ◌<◌}
use native.Mathlib.Omega.{arith}
use lib.ListN.{length, take, drop, get_or, length-append, length-drop}
use Rattle.eb3.specs.Scopes.{Scope}
use Rattle.eb3.specs.Terms.{Term, Done, Parallel, Mask, internal}
use Rattle.eb3.specs.Spelling.{words}
use Rattle.eb3.specs.Sizes.{size}
use Rattle.words.specs.Checking.{last_of}
use Rattle.words.specs.Laws.Checking.{part, last_len, behind_part}
use Rattle.actions.specs.Codes.{action_code}
use Rattle.listing.specs.Listing.{TermAt}
use Rattle.paths.specs.Paths.{followed, within, follow, marked}
use Rattle.successors.specs.Building.{built_words}
use Rattle.successors.specs.Parts.{Unbuilt, Made, Whole, Begun, BegunOf, Beginning, BegunAfter, Behind, After, with_right, Closed, Both}
use Rattle.successors.specs.declared.Built.{Built}
use Rattle.successors.proofs.Ends.{last_within, behind_dropped, drop_past, take_past}
use Rattle.successors.specs.Laws.Terms.{parallel_two, parallel_head, parallel_long, size_there}
use Rattle.successors.specs.Laws.Following.{rest_of_path, parallel_end_follows, parallel_left_follows, parallel_left_marked, parallel_right_follows, parallel_right_marked, parallel_both_follows, parallel_both_marked, size_marked}
use Rattle.successors.proofs.Writes.{lent}
use Rattle.successors.proofs.Made.{bounded_within, right_bounded, unbuilt_bounded}
use Rattle.successors.proofs.Begun.{begun_longer, whole_begun, by_parallel}
use Rattle.successors.proofs.Cases.{Skipped}

-- The right operand begins at the place that the path says.
module _ (s p : List ℕ) (n : ℕ) (is : n ≡ get_or p 1 0) (P : Scope) (rest : List ℕ) (Δ : Mask) (E F : Term) (t : TermAt s P (Parallel Δ E F) rest) (k : get_or p 1 0 ≡ size P.edition.width E) where
  left_size : n ≡ length (words P.edition.width E)
  left_size = is ∙ (k ∙ size_there P E t.fits.1)

  pub right_there : TermAt (drop (5 + n) s) P F rest
  right_there =
      subst (λ z. TermAt z P F rest) (sym (drop_past s 5 n (words P.edition.width E) (words P.edition.width F ++ rest) (parallel_two s P rest Δ E F t).first.spelled left_size)) (parallel_two s P rest Δ E F t).second

  pub head_there : take (5 + n) s ≡ 25 ∷ (Δ ++ words P.edition.width E)
  head_there =
      take_past s 5 n (words P.edition.width E) (words P.edition.width F ++ rest) (parallel_long s P rest Δ E F t) (parallel_two s P rest Δ E F t).first.spelled left_size
      ∙ ap (λ h. h ++ words P.edition.width E) (parallel_head s P rest Δ E F t)

  long : 5 + n ≤ length s
  long = omega (arith, left_size, ap length (parallel_two s P rest Δ E F t).first.spelled, length-append (words P.edition.width E) (words P.edition.width F ++ rest), length-drop 5 s, parallel_long s P rest Δ E F t)

module _ (s p x : List ℕ) (r : Built) (e : get_or s 0 0 ≡ 25) where
  pub parallel_short : length s < 5 → Unbuilt r → Beginning s p x x r
  parallel_short h u =
      by_parallel s p x x r (unbuilt_bounded (length s) (length p) refl u) e (λ P rest Δ E F k _. absurd (omega (arith, parallel_long s P rest Δ E F k)))

  pub parallel_ends : (y q u : List ℕ) (n j : ℕ) → q ≡ drop 1 p → get_or p 0 0 ≡ 0 → Skipped (lent 5 s) n → u ≡ last_of n s → Skipped u j → Whole (30 ∷ []) 0 j (length q) x y r → Beginning s p x y r
  unfolding words action_code
  parallel_ends y q u n j on d k h i m =
      by_parallel s p x y r (bounded_within m.bounds refl (omega (arith, i.0, last_len n s u h)) (omega (arith, ap length on, length-drop 1 p))) e
      (λ P rest Δ E F t _.
      let a : TermAt (drop 5 s) P E (words P.edition.width F ++ rest) = (parallel_two s P rest Δ E F t).first in
      let b : n ≡ length (words P.edition.width F ++ rest) = k.1 P E (words P.edition.width F ++ rest) (subst (λ l. TermAt l P E (words P.edition.width F ++ rest)) (sym (part 5 s)) a) in
      let v : u ≡ words P.edition.width F ++ rest = h ∙ behind_dropped s 5 (words P.edition.width E) (words P.edition.width F ++ rest) n a.spelled b in
      let l : j ≡ length rest = i.1 P F rest (subst (λ c. TermAt c P F rest) (sym v) (parallel_two s P rest Δ E F t).second) in
      subst (λ o. BegunOf P s o rest x y r) (sym (parallel_end_follows p d Δ E F ∙ ap (followed internal Done) (sym on)))
      (whole_begun j l (behind_part (words P.edition.width (Parallel Δ E F)) rest s j t.spelled l) m.made))

  pub parallel_left : (y q : List ℕ) (X : Built) → q ≡ drop 1 p → get_or p 0 0 ≡ 1 → After s 5 q x y X → r ≡ with_right X → Beginning s p x y r
  unfolding words
  parallel_left y q X on d m is =
      subst (Beginning s p x y) (sym is)
      (by_parallel s p x y (with_right X) (right_bounded m.bounds (omega (arith, m.due_behind)) (omega (arith, ap length on, length-drop 1 p))) e
      (λ P rest Δ E F t j.
      let b = built_words P.edition.width E q in
      let g : 25 ∷ (Δ ++ (b ++ words P.edition.width F)) ≡ (take 5 s ++ b) ++ words P.edition.width F = sym (ap (λ h. (h ++ b) ++ words P.edition.width F) (parallel_head s P rest Δ E F t) ∙ append_assoc (25 ∷ Δ) b (words P.edition.width F)) in
      subst (λ o. BegunOf P s o rest x y (with_right X)) (sym (parallel_left_follows p Δ E F d ∙ ap (λ c. within (λ G. Parallel Δ G F) (follow E c)) (sym on)))
      (begun_longer (take 5 s ++ b) F (25 ∷ (Δ ++ (b ++ words P.edition.width F))) t.fits.2 g
      (m.begun P E (words P.edition.width F ++ rest) (parallel_two s P rest Δ E F t).first (subst (λ c. marked P.edition.width E c ≡ true) (sym on) (parallel_left_marked p Δ E F P.edition.width d j))))))

  module _ (n : ℕ) (is : n ≡ get_or p 1 0) where
    pub parallel_right : (y q : List ℕ) → q ≡ drop 2 p → get_or p 0 0 ≡ 2 → After s (5 + n) q x y r → Beginning s p x y r
    unfolding words
    parallel_right y q on d m =
        by_parallel s p x y r (bounded_within m.bounds refl (omega arith) (omega (arith, ap length on, length-drop 2 p))) e
        (λ P rest Δ E F t j.
        let k = parallel_right_marked p Δ E F P.edition.width d j in
        let b = built_words P.edition.width F q in
        let a = action_code (follow F q).action in
        let g : take (5 + n) s ++ b ≡ 25 ∷ (Δ ++ (words P.edition.width E ++ b)) = ap (λ h. h ++ b) (head_there s p n is P rest Δ E F t k.0) ∙ ap (λ l. 25 ∷ l) (append_assoc Δ (words P.edition.width E) b) in
        subst (λ o. BegunOf P s o rest x y r) (sym (parallel_right_follows p Δ E F d ∙ ap (λ c. within (λ G. Parallel Δ E G) (follow F c)) (sym on)))
        (subst (λ o. Begun P s o rest a (length (follow F q).rest) x y r) g
        (m.begun P F rest (right_there s p n is P rest Δ E F t k.0) (subst (λ c. marked P.edition.width F c ≡ true) (sym on) k.1))))

    module _ (d0 : get_or p 0 0 ≡ 0 → ⊥) (d1 : get_or p 0 0 ≡ 1 → ⊥) where
      pub parallel_cut : length s < 5 + n → Unbuilt r → Beginning s p x x r
      parallel_cut h u =
          by_parallel s p x x r (unbuilt_bounded (length s) (length p) refl u) e
          (λ P rest Δ E F t j. absurd (omega (arith, h, long s p n is P rest Δ E F t (size_marked p Δ E F P.edition.width d0 d1 j))))

      pub parallel_both : (y q : List ℕ) → q ≡ drop 2 p → (get_or p 0 0 ≡ 2 → ⊥) → Both s (5 + n) q x y r → Beginning s p x y r
      unfolding words
      parallel_both y q on d2 m =
          by_parallel s p x y r (bounded_within m.bounds refl (omega arith) (omega (arith, ap length on, length-drop 2 p))) e
          (λ P rest Δ E F t j.
          let k = parallel_both_marked p Δ E F d0 d1 d2 P.edition.width j in
          let mE : marked P.edition.width E q ≡ true = subst (λ c. marked P.edition.width E c ≡ true) (sym on) k.1 in
          let mF : marked P.edition.width F (follow E q).rest ≡ true = subst (λ c. marked P.edition.width F (follow E c).rest ≡ true) (sym on) k.2 in
          let b = built_words P.edition.width E q ++ built_words P.edition.width F (follow E q).rest in
          subst (λ o. BegunOf P s o rest x y r) (sym (parallel_both_follows p Δ E F d0 d1 d2 ∙ ap (λ c. followed (follow E c).action (Parallel Δ (follow E c).successor (follow F (follow E c).rest).successor) (follow F (follow E c).rest).rest) (sym on)))
          (subst (λ h. Begun P s (h ++ b) rest (action_code (follow E q).action) (length (follow F (follow E q).rest).rest) x y r) (parallel_head s P rest Δ E F t)
          (m.begun P E F rest (parallel_two s P rest Δ E F t).first (right_there s p n is P rest Δ E F t k.0) mE mF)))

-- ── both operands ──

module _ (s : List ℕ) (n : ℕ) (p v x x1 x2 x3 : List ℕ) (X Z Y : Built) (long : n ≤ length s) (A : After s 5 p x x1 X) (C : Closed s X (length s - n) x1 x2 Z)
    (on : v ≡ last_of X.path_left p) (given : Behind Z (lent n s) v x2 x3 Y) where
  B : Behind Z (drop n s) v x2 x3 Y
  B = subst (λ l. Behind Z l v x2 x3 Y) (part n s) given

  same_2 : length x2 ≡ length x
  same_2 = C.bounds.same_length ∙ A.bounds.same_length

  module _ (P : Scope) (E F : Term) (rest : List ℕ) (i : TermAt (drop 5 s) P E (words P.edition.width F ++ rest)) (j : TermAt (drop n s) P F rest) (mE : marked P.edition.width E p ≡ true) (mF : marked P.edition.width F (follow E p).rest ≡ true) where
    first : BegunAfter P s (take 5 s) E p (words P.edition.width F ++ rest) x x1 X
    first = A.begun P E (words P.edition.width F ++ rest) i mE

    left_whole : Made (take 5 s ++ built_words P.edition.width E p) (action_code (follow E p).action) (length s - n) (length (follow E p).rest) x x2 Z
    unfolding last_of
    left_whole =
        let k : length s - (length s - n) ≡ n = omega arith in
        let c : length s - n ≡ length (words P.edition.width F ++ rest) = omega (arith, ap length j.spelled, length-drop n s) in
        C.made (take 5 s ++ built_words P.edition.width E p) (words P.edition.width F ++ rest) x (action_code (follow E p).action) (length (follow E p).rest) A.bounds.same_length first.going (ap (λ z. drop z s) k ∙ j.spelled) c

    second : X.ok ≡ true → BegunAfter P (drop n s) (take 5 s ++ built_words P.edition.width E p) F (follow E p).rest rest x x3 Y
    second ok =
        let c : v ≡ (follow E p).rest = on ∙ rest_of_path E p X.path_left (first.going.right ok).path_left in
        subst (λ q. BegunAfter P (drop n s) (take 5 s ++ built_words P.edition.width E p) F q rest x x3 Y) c
        (B.begun (take 5 s ++ built_words P.edition.width E p) x (action_code (follow E p).action) (length s - n) (length (follow E p).rest) same_2 left_whole P F rest j (subst (λ q. marked P.edition.width F q ≡ true) (sym c) mF))

    abbrev whole : List ℕ
    whole = take 5 s ++ (built_words P.edition.width E p ++ built_words P.edition.width F (follow E p).rest)

    whole_is : whole ≡ (take 5 s ++ built_words P.edition.width E p) ++ built_words P.edition.width F (follow E p).rest
    whole_is = sym (append_assoc (take 5 s) (built_words P.edition.width E p) (built_words P.edition.width F (follow E p).rest))

  pub both_made : Both s n p x x3 (record { ok = Y.ok; action = X.action; words = Y.words; left = Y.left; due = Y.due; path_left = Y.path_left })
  both_made = record {
    bounds = record {
      same_length = B.bounds.same_length ∙ same_2;
      left_bounded = omega (arith, B.bounds.left_bounded, length-drop n s);
      due_bounded = omega (arith, B.bounds.due_bounded, length-drop n s);
      path_bounded = omega (arith, B.bounds.path_bounded, last_len X.path_left p v on);
      size_bounded = omega (arith, B.bounds.size_bounded, same_2);
    };
    begun = λ P E F rest i j mE mF.
        let w = whole_is P E F rest i j mE mF in
        let here : last_of Y.left (drop n s) ≡ last_of Y.left s = last_within s (drop n s) Y.left (n, refl) B.bounds.left_bounded in
        record {
          going = record {
            has_room = λ k.
                let l = length-append (take 5 s ++ built_words P.edition.width E p) (built_words P.edition.width F (follow E p).rest) in
                (second P E F rest i j mE mF ((first P E F rest i j mE mF).going.has_room (omega (arith, ap length w, l)))).going.has_room (subst (λ o. 2 * length o ≤ length x) w k);
            right = λ k.
                let ok : X.ok ≡ true = C.before (B.before k) in
                let f = (second P E F rest i j mE mF ok).going.right k in
                record {
                  part = f.part;
                  action = ((first P E F rest i j mE mF).going.right ok).action;
                  path_left = f.path_left;
                  size = f.size;
                  behind = f.behind;
                  onward = ap (λ o. o ++ rest) w ∙ (f.onward ∙ ap (λ z. f.part ++ z) here);
                  written_there = f.written_there;
                };
          };
          stands = λ k.
              let f = (second P E F rest i j mE mF (C.before (B.before k))).stands k in
              record { standing = f.standing; due = f.due; fit = f.fit; there = sym here ∙ f.there };
        };
  }
