-- A case for each way that the beginning of a successor returns, but for a parallel's. The premises have the form of the facts known there.
use mathlib.Core.Path.{◌≡◌, refl, sym, ap, ◌∙◌, subst}
use mathlib.Core.Bool.{true, false, cond}
use mathlib.Core.List.{List, [], ◌∷◌, ◌++◌}
use Prim.Native.Nat.{ℕ, ◌+◌, ◌-◌, ◌≤◌, ◌<◌}
use native.Mathlib.Omega.{arith}
use lib.ListN.{length, take, drop, get_or, length-append, length-drop}
use lib.Seq.{drop-drop}
use Rattle.eb3.specs.Expressions.{Cond}
use Rattle.eb3.specs.Scopes.{Scope}
use Rattle.eb3.specs.Terms.{Term, Done, Perform, Sequence, Choice, Star, VisibleAction, visible, internal, done?}
use Rattle.eb3.specs.Spelling.{cond_words, words}
use Rattle.words.specs.Checking.{last_of}
use Rattle.words.specs.Laws.Checking.{part, last_len, behind_part, behind_fewer}
use Rattle.expressions.specs.Answering.{CondAt}
use Rattle.actions.specs.Codes.{action_code, ActionAt}
use Rattle.listing.specs.Listing.{TermAt}
use Rattle.listing.specs.Rows.{RowAt}
use Rattle.listing.specs.Positions.{code_in_front}
use Rattle.listing.specs.Laws.Positions.{action_at, term_front}
use Rattle.listing.specs.Laws.Operands.{is_done, other_test}
use Rattle.paths.specs.Paths.{followed, within, follow, marked}
use Rattle.successors.specs.Building.{built_words}
use Rattle.successors.specs.Parts.{Unbuilt, Made, Whole, Added, Begun, BegunOf, Beginning, Behind, After, with_right, Closed}
use Rattle.successors.specs.declared.Built.{Built}
use Rattle.successors.proofs.Ends.{before_part, drop_past}
use Rattle.successors.specs.Laws.Terms.{sequence_two, choice_two, star_first, guard_condition, guard_operand, size_there}
use Rattle.successors.specs.Laws.Following.{leaf, choice_left_follows, choice_left_marked, choice_right_follows, choice_right_marked, star_end_follows, round_follows, round_marked}
use Rattle.successors.proofs.Made.{bounded_within, right_bounded, unbuilt_bounded, made_left, added_made}
use Rattle.successors.proofs.Writes.{lent}
use Rattle.successors.proofs.Begun.{begun_within, begun_longer, begun_where, whole_begun, by_action, by_sequence, by_choice, by_star, by_guard}

-- What skipping a term answers.
abbrev pub Skipped : List ℕ → ℕ → Type 0
Skipped s r = (r ≤ length s) × ((P : Scope) (E : Term) (rest : List ℕ) → TermAt s P E rest → r ≡ length rest)

-- What skipping n terms, one after the other, answers.
abbrev pub RowSkipped : List ℕ → ℕ → ℕ → Type 0
RowSkipped s n r = (r ≤ length s) × ((P : Scope) (Es : List Term) (rest : List ℕ) → RowAt s P Es rest → n ≡ length Es → r ≡ length rest)

-- The end of the operand that moved is found by skipping the terms, `l.due` of them, that still belong to its successor.
operand_ends : {P : Scope} {E : Term} {t rest o : List ℕ} {a m : ℕ} {x y : List ℕ} {l : Built} (v : List ℕ) (n : ℕ) → TermAt t P E rest → Begun P t o rest a m x y l → l.ok ≡ true
    → v ≡ last_of l.left t → RowSkipped v l.due n → n ≡ length rest
operand_ends v n i f ok e k =
    let g = f.stands ok in
    k.1 _ g.standing _ (record { plain = i.plain; fit = g.fit; spelled = e ∙ g.there; closed = i.closed }) g.due

-- ── leaves ──

pub leaf_case : (s p x y : List ℕ) (r : Built) (w : ℕ) → w ≡ get_or s 0 0 → (w ≡ 21 → ⊥) → (w ≡ 22 → ⊥) → (w ≡ 23 → ⊥) → (w ≡ 24 → ⊥) → (w ≡ 25 → ⊥) → (w ≡ 26 → ⊥)
    → (t : List ℕ) → t ≡ drop 1 s → Whole (30 ∷ []) 0 (length t) (length p) x y r → Beginning s p x y r
unfolding words action_code
leaf_case s p x y r w e a b c d g f t h m = record {
  bounds = bounded_within m.bounds refl (omega (arith, ap length h, length-drop 1 s)) (omega arith);
  begun = λ P G rest k _.
      let q : w ≡ code_in_front G = e ∙ term_front s P G rest k in
      let v = leaf P.edition.width G (λ i. a (q ∙ i)) (λ i. b (q ∙ i)) (λ i. c (q ∙ i)) (λ i. d (q ∙ i)) (λ i. g (q ∙ i)) (λ i. f (q ∙ i)) p rest in
      let l : t ≡ rest = h ∙ (ap (drop 1) k.spelled ∙ v.1) in
      subst (λ z. BegunOf P s z rest x y r) (sym v.0) (whole_begun (length t) (ap length l) (behind_part (words P.edition.width G) rest s (length t) k.spelled (ap length l)) m.made);
}

module _ (s p t : List ℕ) (behind : t ≡ drop 1 s) where
  shorter : length t ≤ length s
  shorter = omega (arith, ap length behind, length-drop 1 s)

  pub action_case : (x y : List ℕ) (r : Built) (a n : ℕ) → get_or s 0 0 ≡ 21 → ((v : VisibleAction) (rest : List ℕ) → ActionAt t v rest → a ≡ action_code (visible v)) → (n ≤ length t) × ((v : VisibleAction) (rest : List ℕ) → ActionAt t v rest → n ≡ length rest)
      → Whole (30 ∷ []) a n (length p) x y r → Beginning s p x y r
  unfolding follow words
  action_case x y r a n e f g m =
      by_action s p x y r (bounded_within m.bounds refl (omega (arith, g.0, shorter)) (omega arith)) e
      (λ P rest v k _.
      let w : ActionAt t v rest = subst (λ z. ActionAt z v rest) (sym behind) (action_at s P v rest k) in
      whole_begun n (g.1 v rest w) (behind_part (words P.edition.width (Perform v)) rest s n k.spelled (g.1 v rest w)) (subst (λ i. Made (30 ∷ []) i n (length p) x y r) (f v rest w) m.made))

  -- ── a sequence ──

  pub sequence_done : (x y : List ℕ) (r : Built) (u : List ℕ) → get_or s 0 0 ≡ 22 → get_or t 0 0 ≡ 30 → u ≡ drop 1 t → Beginning u p x y r → Beginning s p x y r
  unfolding follow marked done? words
  sequence_done x y r u e d h m =
      by_sequence s p x y r (bounded_within m.bounds refl (omega (arith, ap length h, length-drop 1 t, shorter)) (omega arith)) e
      (λ P rest E F k j.
      let i : TermAt t P E (words P.edition.width F ++ rest) = subst (λ z. TermAt z P E (words P.edition.width F ++ rest)) (sym behind) (sequence_two s P rest E F k).first in
      let o : E ≡ Done = is_done E (sym d ∙ term_front t P E (words P.edition.width F ++ rest) i) in
      let v : u ≡ words P.edition.width F ++ rest = h ∙ (ap (drop 1) i.spelled ∙ ap (λ G. drop 1 (words P.edition.width G ++ (words P.edition.width F ++ rest))) o) in
      let c : marked P.edition.width F p ≡ true = subst (λ G. marked P.edition.width (Sequence G F) p ≡ true) o j in
      let g : u ≡ drop 2 s = h ∙ (ap (drop 1) behind ∙ drop-drop 1 1 s) in
      subst (λ G. BegunOf P s (follow (Sequence G F) p) rest x y r) (sym o)
      (begun_within (2, g) m.bounds.left_bounded (m.begun P F rest (subst (λ z. TermAt z P F rest) (sym v) (sequence_two s P rest E F k).second) c)))

  pub sequence_goes : (x y : List ℕ) (X r : Built) → get_or s 0 0 ≡ 22 → (get_or t 0 0 ≡ 30 → ⊥) → After s 1 p x y X → r ≡ with_right X → Beginning s p x y r
  unfolding follow marked words
  sequence_goes x y X r e d m is =
      subst (Beginning s p x y) (sym is)
      (by_sequence s p x y (with_right X) (right_bounded m.bounds (omega (arith, m.due_behind)) (omega arith)) e
      (λ P rest E F k j.
      let i : TermAt (drop 1 s) P E (words P.edition.width F ++ rest) = (sequence_two s P rest E F k).first in
      let n : done? E ≡ false = other_test E (λ z. d (ap (λ l. get_or l 0 0) behind ∙ (term_front (drop 1 s) P E (words P.edition.width F ++ rest) i ∙ z))) in
      let o : take 1 s ≡ 22 ∷ [] = ap (take 1) k.spelled in
      let c : marked P.edition.width E p ≡ true = sym (ap (λ b. cond b (marked P.edition.width F p) (marked P.edition.width E p)) n) ∙ j in
      rw n (begun_longer (take 1 s ++ built_words P.edition.width E p) F (22 ∷ (built_words P.edition.width E p ++ words P.edition.width F)) k.fits.1 (ap (λ h. (h ++ built_words P.edition.width E p) ++ words P.edition.width F) (sym o)) (m.begun P E (words P.edition.width F ++ rest) i c))))

  -- ── a guard ──

  pub guard_case : (x y : List ℕ) (r : Built) (u : List ℕ) (n : ℕ) → get_or s 0 0 ≡ 26 → (n ≤ length t) × ((P : Scope) (C : Cond) (rest : List ℕ) → CondAt t P C rest → n ≡ length rest) → u ≡ last_of n t → Beginning u p x y r → Beginning s p x y r
  unfolding follow marked last_of
  guard_case x y r u n e k h m =
      by_guard s p x y r (bounded_within m.bounds refl (omega (arith, last_len n t u h, shorter)) (omega arith)) e
      (λ P rest C E i j.
      let c : CondAt t P C (words P.edition.width E ++ rest) = subst (λ z. CondAt z P C (words P.edition.width E ++ rest)) (sym behind) (guard_condition s P rest C E i) in
      let v : u ≡ words P.edition.width E ++ rest = h ∙ behind_part (cond_words P.edition.width C) (words P.edition.width E ++ rest) t n c.spelled (k.1 P C (words P.edition.width E ++ rest) c) in
      let g : u ≡ drop (1 + (length t - n)) s = h ∙ (ap (drop (length t - n)) behind ∙ drop-drop (length t - n) 1 s) in
      begun_within (1 + (length t - n), g) m.bounds.left_bounded (m.begun P E rest (subst (λ z. TermAt z P E rest) (sym v) (guard_operand s P rest C E i)) j))

  -- ── a choice ──

  module _ (q : List ℕ) (on : q ≡ drop 1 p) (e : get_or s 0 0 ≡ 23) where
    left_there : (P : Scope) (E F : Term) (rest : List ℕ) → TermAt s P (Choice E F) rest → TermAt t P E (words P.edition.width F ++ rest)
    left_there P E F rest k = subst (λ z. TermAt z P E (words P.edition.width F ++ rest)) (sym behind) (choice_two s P rest E F k).first

    pub choice_left : (x y z v u : List ℕ) (l c : Built) (n left : ℕ) → get_or p 0 0 ≡ 0 → Beginning t q x y l → v ≡ last_of l.left t → RowSkipped v l.due n → Closed t l n y z c
        → u ≡ last_of n t → Skipped u left → Beginning s p x z (record { ok = c.ok; action = c.action; words = c.words; left = left; due = 0; path_left = c.path_left })
    unfolding words
    choice_left x y z v u l c n left d m ve k cl h sk =
        by_choice s p x z (record { ok = c.ok; action = c.action; words = c.words; left = left; due = 0; path_left = c.path_left })
        (record {
          same_length = cl.bounds.same_length ∙ m.bounds.same_length;
          left_bounded = omega (arith, sk.0, last_len n t u h, shorter);
          due_bounded = omega arith;
          path_bounded = omega (arith, cl.bounds.path_bounded, m.bounds.path_bounded, ap length on, length-drop 1 p);
          size_bounded = omega (arith, cl.bounds.size_bounded, m.bounds.same_length);
        }) e
        (λ P rest E F i j.
        let w = left_there P E F rest i in
        let f = m.begun P E (words P.edition.width F ++ rest) w (subst (λ g. marked P.edition.width E g ≡ true) (sym on) (choice_left_marked p d P.edition.width E F j)) in
        subst (λ o. BegunOf P s o rest x z (record { ok = c.ok; action = c.action; words = c.words; left = left; due = 0; path_left = c.path_left }))
        (sym (choice_left_follows p d E F ∙ ap (follow E) (sym on)))
        (begun_where l f.going.has_room cl.before (λ ok.
        let a : n ≡ length (words P.edition.width F ++ rest) = operand_ends v n w f ok ve k in
        let at : last_of n t ≡ words P.edition.width F ++ rest = behind_part (words P.edition.width E) (words P.edition.width F ++ rest) t n w.spelled a in
        let b : left ≡ length rest = sk.1 P F rest (subst (λ g. TermAt g P F rest) (sym (h ∙ at)) (choice_two s P rest E F i).second) in
        let g = cl.made (built_words P.edition.width E q) (words P.edition.width F ++ rest) x (action_code (follow E q).action) (length (follow E q).rest) m.bounds.same_length f.going at a in
        whole_begun left b (behind_part (words P.edition.width (Choice E F)) rest s left i.spelled b) (made_left left g))))

-- The right operand of a choice begins at the place that the path says.
module _ (s p x : List ℕ) (r : Built) (n : ℕ) (e : get_or s 0 0 ≡ 23) (d : get_or p 0 0 ≡ 0 → ⊥) (is : n ≡ get_or p 1 0) where
  left_size : (P : Scope) (E F : Term) (rest : List ℕ) → TermAt s P (Choice E F) rest → marked P.edition.width (Choice E F) p ≡ true → n ≡ length (words P.edition.width E)
  left_size P E F rest i j = is ∙ ((choice_right_marked p d P.edition.width E F j).0 ∙ size_there P E i.fits.0)

  right_there : (P : Scope) (E F : Term) (rest : List ℕ) → TermAt s P (Choice E F) rest → marked P.edition.width (Choice E F) p ≡ true → TermAt (drop (1 + n) s) P F rest
  right_there P E F rest i j =
      subst (λ z. TermAt z P F rest) (sym (drop_past s 1 n (words P.edition.width E) (words P.edition.width F ++ rest) (choice_two s P rest E F i).first.spelled (left_size P E F rest i j)))
      (choice_two s P rest E F i).second

  pub choice_short : length s < 1 + n → Unbuilt r → Beginning s p x x r
  choice_short h u =
      by_choice s p x x r (unbuilt_bounded (length s) (length p) refl u) e
      (λ P rest E F i j.
      absurd (omega (arith, left_size P E F rest i j, h, behind_fewer s (drop 1 s) 23 refl e (omega arith), ap length (choice_two s P rest E F i).first.spelled, length-append (words P.edition.width E) (words P.edition.width F ++ rest), length-drop 1 s)))

  pub choice_right : (q y : List ℕ) → q ≡ drop 2 p → Beginning (lent (1 + n) s) q x y r → Beginning s p x y r
  choice_right q y on given =
      let m : Beginning (drop (1 + n) s) q x y r = subst (λ z. Beginning z q x y r) (part (1 + n) s) given in
      by_choice s p x y r (bounded_within m.bounds refl (omega (arith, length-drop (1 + n) s)) (omega (arith, ap length on, length-drop 2 p))) e
      (λ P rest E F i j.
      subst (λ o. BegunOf P s o rest x y r) (sym (choice_right_follows p d E F ∙ ap (follow F) (sym on)))
      (begun_within (1 + n, refl) m.bounds.left_bounded
      (m.begun P F rest (right_there P E F rest i j) (subst (λ g. marked P.edition.width F g ≡ true) (sym on) (choice_right_marked p d P.edition.width E F j).1))))

-- ── a star ──

module _ (s p t q x : List ℕ) (behind : t ≡ drop 1 s) (on : q ≡ drop 1 p) (e : get_or s 0 0 ≡ 24) where
  operand : (P : Scope) (rest : List ℕ) (E : Term) → TermAt s P (Star E) rest → TermAt t P E rest
  operand P rest E i = subst (λ l. TermAt l P E rest) (sym behind) (star_first s P rest E i)

  fewer : (length t ≤ length s) × (length q ≤ length p)
  fewer = (omega (arith, ap length behind, length-drop 1 s), omega (arith, ap length on, length-drop 1 p))

  pub star_ends : (y : List ℕ) (r : Built) (n : ℕ) → get_or p 0 0 ≡ 0 → Skipped t n → Whole (30 ∷ []) 0 n (length q) x y r → Beginning s p x y r
  unfolding words action_code
  star_ends y r n d k m =
      by_star s p x y r (bounded_within m.bounds refl (omega (arith, k.0, fewer.0)) fewer.1) e
      (λ P rest E i _.
      let l : n ≡ length rest = k.1 P E rest (operand P rest E i) in
      subst (λ o. BegunOf P s o rest x y r) (sym (star_end_follows p d E ∙ ap (followed internal Done) (sym on))) (whole_begun n l (behind_part (words P.edition.width (Star E)) rest s n i.spelled l) m.made))

  pub round : (x1 x2 x3 x4 v : List ℕ) (h l c r : Built) (n : ℕ) (o : List ℕ) → (get_or p 0 0 ≡ 0 → ⊥) → Whole (22 ∷ []) 0 0 0 x x1 h → Behind h t q x1 x2 l → v ≡ last_of l.left t → RowSkipped v l.due n
      → Closed t l n x2 x3 c → Added o c x3 x4 r → o ≡ take (length s - n) s → Beginning s p x x4 r
  unfolding words
  round x1 x2 x3 x4 v h l c r n o d W B ve k C A again =
      let s2 : length x2 ≡ length x = B.bounds.same_length ∙ W.bounds.same_length in
      let s3 : length x3 ≡ length x = C.bounds.same_length ∙ s2 in
      let inside : n ≤ length s = omega (arith, k.0, last_len l.left t v ve, fewer.0) in
      by_star s p x x4 r
      (record {
        same_length = A.bounds.same_length ∙ s3;
        left_bounded = omega (arith, A.bounds.left_bounded, C.bounds.left_bounded, inside);
        due_bounded = omega (arith, A.bounds.due_bounded, C.bounds.left_bounded, inside);
        path_bounded = omega (arith, A.bounds.path_bounded, C.bounds.path_bounded, B.bounds.path_bounded, fewer.1);
        size_bounded = omega (arith, A.bounds.size_bounded, s3);
      }) e
      (λ P rest E i j.
      let a = action_code (follow E q).action in
      let m = length (follow E q).rest in
      let f = B.begun (22 ∷ []) x 0 0 0 W.bounds.same_length W.made P E rest (operand P rest E i) (subst (λ g. marked P.edition.width E g ≡ true) (sym on) (round_marked p d P.edition.width E j)) in
      subst (λ y. BegunOf P s y rest x x4 r) (sym (round_follows p d E ∙ ap (λ y. within (λ G. Sequence G (Star E)) (follow E y)) (sym on)))
      (begun_where l (λ room. f.going.has_room (omega (arith, room, length-append (built_words P.edition.width E q) (words P.edition.width (Star E))))) (λ ok. C.before (A.right ok).before) (λ ok.
      let g : n ≡ length rest = operand_ends v n (operand P rest E i) f ok ve k in
      let whole = C.made (22 ∷ built_words P.edition.width E q) rest x a m s2 f.going (behind_part (words P.edition.width E) rest t n (operand P rest E i).spelled g) g in
      let w : o ≡ words P.edition.width (Star E) = again ∙ before_part (words P.edition.width (Star E)) rest s n i.spelled g in
      let b = added_made (22 ∷ built_words P.edition.width E q) o x x3 x4 a n m c r s3 (omega (arith, C.bounds.size_bounded, C.bounds.same_length)) whole A in
      whole_begun n g (behind_part (words P.edition.width (Star E)) rest s n i.spelled g) (subst (λ y. Made (22 ∷ (built_words P.edition.width E q ++ y)) a n m x x4 r) w b))))
