-- A case for each way in which writing a successor's words returns, except for a parallel's (document 01, "Moves, in order"). The premises have the form of
-- the facts that the code gives there.
use mathlib.Core.Path.{◌≡◌, refl, sym, ap, ◌∙◌, subst}
use mathlib.Core.Bool.{true, false, cond}
use mathlib.Core.List.{List, ◌++◌}
use Prim.Native.Nat.{ℕ, ◌+◌, ◌≤◌, ◌<◌}
use native.Mathlib.Omega.{arith}
use Rattle.std.specs.Prelude.{Option, None}
use lib.ListN.{length, drop, get_or, set, length-drop, length-set}
use lib.Seq.{drop-drop}
use Rattle.eb3.specs.Expressions.{Cond}
use Rattle.eb3.specs.Scopes.{Scope}
use Rattle.eb3.specs.Terms.{Term, Done, Sequence, Choice, Star, visible, internal, done?}
use Rattle.eb3.specs.Spelling.{cond_words, words}
use Rattle.eb3.specs.Sizes.{size}
use Rattle.words.specs.Checking.{last_of}
use Rattle.words.specs.Ends.{Tail}
use Rattle.words.specs.Laws.Checking.{part, last_behind}
use Rattle.expressions.specs.Answering.{CondAt}
use Rattle.actions.specs.Codes.{action_code, ActionAt}
use Rattle.listing.specs.Listing.{TermAt}
use Rattle.listing.specs.Positions.{code_in_front, TwoAt}
use Rattle.listing.specs.Laws.Positions.{action_at, term_front, behind_term}
use Rattle.listing.specs.Laws.Operands.{is_done, other_test}
use Rattle.paths.specs.Paths.{followed, within, follow, marked}
use Rattle.sharing.specs.Shared.{PartAt}
use Rattle.sharing.specs.Laws.Shared.{size_some}
use Rattle.sharing.specs.Beginning.{Reached, BeganRight, Beginning, ActionNumber, EndPut}
use Rattle.successors.specs.Laws.Terms.{sequence_two, choice_two, star_first, guard_condition, guard_operand, right_there, left_within}
use Rattle.successors.specs.Laws.Following.{leaf, choice_left_follows, choice_left_marked, choice_right_follows, choice_right_marked, star_end_follows, round_follows, round_marked}
use Rattle.sharing.proofs.BeginningEnds.{Under, under_on, last_tail, part_at}
use Rattle.sharing.proofs.BeginningGiven.{Skipped, lent, Given, begun, by_any, by_action, by_sequence, by_choice, by_star, by_guard, ended, then_began}

-- ── leaves ──

pub leaf_case : (s p x y : List ℕ) (at w : ℕ) (r : Option Reached) → w ≡ get_or s 0 0 → (w ≡ 21 → ⊥) → (w ≡ 22 → ⊥) → (w ≡ 23 → ⊥) → (w ≡ 24 → ⊥) → (w ≡ 25 → ⊥) → (w ≡ 26 → ⊥)
    → EndPut (length p) 0 at x y r → Beginning s p at x y r
unfolding size action_code
leaf_case s p x y at w r e a b c d i f m =
    by_any m.same_length (λ u P rest G h g k.
    let q : w ≡ code_in_front G = e ∙ h in
    let v : follow G p ≡ followed internal Done p = (leaf P.edition.width G (λ j. a (q ∙ j)) (λ j. b (q ∙ j)) (λ j. c (q ∙ j)) (λ j. d (q ∙ j)) (λ j. i (q ∙ j)) (λ j. f (q ∙ j)) p rest).0 in
    subst (λ z. BeganRight u P z at x y r) (sym v) (ended internal p m (subst (λ z. at + size P.edition.width z.successor ≤ length x) v k) refl refl))

module _ (s p t : List ℕ) (behind : t ≡ drop 1 s) where
  pub action_case : (x y : List ℕ) (at a : ℕ) (r : Option Reached) → get_or s 0 0 ≡ 21 → ActionNumber t a → EndPut (length p) a at x y r → Beginning s p at x y r
  unfolding follow size
  action_case x y at a r e f m =
      by_action m.same_length e (λ u P rest v g k.
      ended (visible v) p m k refl (f v rest (subst (λ z. ActionAt z v rest) (sym behind) (action_at s P v rest g.there))))

  -- ── a sequence ──

  two_there : {u rest : List ℕ} {P : Scope} {E F : Term} → Given u s P (Sequence E F) rest p → TwoAt t P E F rest
  two_there {u} {rest} {P} {E} {F} g = subst (λ z. TwoAt z P E F rest) (sym behind) (sequence_two s P rest E F g.there)

  -- An operand that is not done moves.
  goes : {u rest : List ℕ} {P : Scope} {E F : Term} → (get_or t 0 0 ≡ 30 → ⊥) → Given u s P (Sequence E F) rest p → done? E ≡ false
  goes {u} {rest} {P} {E} {F} d g = other_test E (λ z. d (term_front t P E (words P.edition.width F ++ rest) (two_there g).first ∙ z))

  goes_follows : (E F : Term) → done? E ≡ false → follow (Sequence E F) p ≡ within (λ X. Sequence X F) (follow E p)
  unfolding follow
  goes_follows E F n = ap (λ b. cond b (follow F p) (within (λ X. Sequence X F) (follow E p))) n

  pub sequence_done : (x y : List ℕ) (at : ℕ) (r : Option Reached) (v : List ℕ) → get_or s 0 0 ≡ 22 → get_or t 0 0 ≡ 30 → v ≡ drop 1 t → Beginning v p at x y r → Beginning s p at x y r
  unfolding follow marked done? words
  sequence_done x y at r v e d h m =
      by_sequence m.same_length e (λ u P rest E F g k.
      let two = two_there g in
      let o : E ≡ Done = is_done E (sym d ∙ term_front t P E (words P.edition.width F ++ rest) two.first) in
      let i : v ≡ words P.edition.width F ++ rest = h ∙ (ap (drop 1) two.first.spelled ∙ ap (λ G. drop 1 (words P.edition.width G ++ (words P.edition.width F ++ rest))) o) in
      let q : follow (Sequence E F) p ≡ follow F p = ap (λ G. follow (Sequence G F) p) o in
      let c : marked P.edition.width F p ≡ true = subst (λ G. marked P.edition.width (Sequence G F) p ≡ true) o g.led in
      let tail : Tail v s = (2, h ∙ (ap (drop 1) behind ∙ drop-drop 1 1 s)) in
      let given : Given u v P F rest p = record {
        few = g.few;
        under = under_on v g.under tail;
        there = subst (λ z. TermAt z P F rest) (sym i) two.second;
        mask_free = g.mask_free.1;
        led = c;
        short = g.short;
      } in
      subst (λ z. BeganRight u P z at x y r) (sym q) (begun m u P rest F given (subst (λ z. at + size P.edition.width z.successor ≤ length x) q k)))

  module _ (x : List ℕ) (at : ℕ) (e : get_or s 0 0 ≡ 22) (d : get_or t 0 0 ≡ 30 → ⊥) where
    pub sequence_full : length x < at + 2 → Beginning s p at x x None
    unfolding size
    sequence_full h =
        by_sequence refl e (λ u P rest E F g k.
        let l : at + size P.edition.width (Sequence (follow E p).successor F) ≤ length x = subst (λ z. at + size P.edition.width z.successor ≤ length x) (goes_follows E F (goes d g)) k in
        absurd (omega (arith, l, h, size_some P.edition.width (follow E p).successor, size_some P.edition.width F)))

    pub sequence_goes : (y : List ℕ) (r : Option Reached) (n : ℕ) → at + 2 ≤ length x → Skipped t n → Beginning t p (at + 2) (set (set x at 22) (at + 1) (32 + n)) y r → Beginning s p at x y r
    unfolding marked size
    sequence_goes y r n room skip m =
        let same : length (set (set x at 22) (at + 1) (32 + n)) ≡ length x = length-set (set x at 22) (at + 1) (32 + n) ∙ length-set x at 22 in
        by_sequence (m.same_length ∙ same) e (λ u P rest E F g k.
        let two = two_there g in
        let z : done? E ≡ false = goes d g in
        let q = goes_follows E F z in
        let c : marked P.edition.width E p ≡ true = sym (ap (λ b. cond b (marked P.edition.width F p) (marked P.edition.width E p)) z) ∙ g.led in
        let l : at + size P.edition.width (Sequence (follow E p).successor F) ≤ length x = subst (λ f. at + size P.edition.width f.successor ≤ length x) q k in
        let v = words P.edition.width F ++ rest in
        let i : Under u t = under_on t g.under (1, behind) in
        let j : Under u v = under_on v i (last_tail (length v) t v (sym (behind_term t P E v two.first))) in
        let a : length v ≡ n = sym (skip.1 P E v two.first) in
        let given : Given u t P E v p = record { few = g.few; under = i; there = two.first; mask_free = g.mask_free.0; led = c; short = g.short } in
        let b = begun m u P v E given (omega (arith, l, same, size_some P.edition.width F)) in
        subst (λ f. BeganRight u P f at x y r) (sym q) (then_began (follow E p) n F room (subst (λ w. PartAt u P w F) a (part_at j two.second g.mask_free.1)) b))

  -- ── a guard ──

  pub guard_case : (x y : List ℕ) (at : ℕ) (r : Option Reached) (v : List ℕ) (n : ℕ) → get_or s 0 0 ≡ 26
      → (n ≤ length t) × ((P : Scope) (C : Cond) (rest : List ℕ) → CondAt t P C rest → n ≡ length rest) → v ≡ last_of n t → Beginning v p at x y r → Beginning s p at x y r
  unfolding follow marked
  guard_case x y at r v n e k h m =
      by_guard m.same_length e (λ u P rest C E g room.
      let o = words P.edition.width E ++ rest in
      let c : CondAt t P C o = subst (λ z. CondAt z P C o) (sym behind) (guard_condition s P rest C E g.there) in
      let i : v ≡ o = h ∙ (ap (λ j. last_of j t) (k.1 P C o c) ∙ (ap (last_of (length o)) c.spelled ∙ last_behind (cond_words P.edition.width C) o)) in
      let given : Given u v P E rest p = record {
        few = g.few;
        under = under_on v (under_on t g.under (1, behind)) (last_tail n t v h);
        there = subst (λ z. TermAt z P E rest) (sym i) (guard_operand s P rest C E g.there);
        mask_free = g.mask_free;
        led = g.led;
        short = g.short;
      } in
      begun m u P rest E given room)

  -- ── a choice ──

  module _ (x : List ℕ) (at : ℕ) (e : get_or s 0 0 ≡ 23) where
    both_there : {u rest : List ℕ} {P : Scope} {E F : Term} → Given u s P (Choice E F) rest p → TwoAt t P E F rest
    both_there {u} {rest} {P} {E} {F} g = subst (λ z. TwoAt z P E F rest) (sym behind) (choice_two s P rest E F g.there)

    pub choice_left : (y q : List ℕ) (r : Option Reached) → q ≡ drop 1 p → get_or p 0 0 ≡ 0 → Beginning t q at x y r → Beginning s p at x y r
    choice_left y q r on d m =
        by_choice m.same_length e (λ u P rest E F g k.
        let f : follow (Choice E F) p ≡ follow E q = choice_left_follows p d E F ∙ ap (follow E) (sym on) in
        let given : Given u t P E (words P.edition.width F ++ rest) q = record {
          few = g.few;
          under = under_on t g.under (1, behind);
          there = (both_there g).first;
          mask_free = g.mask_free.0;
          led = subst (λ z. marked P.edition.width E z ≡ true) (sym on) (choice_left_marked p d P.edition.width E F g.led);
          short = omega (arith, g.short, ap length on, length-drop 1 p);
        } in
        subst (λ z. BeganRight u P z at x y r) (sym f) (begun m u P (words P.edition.width F ++ rest) E given (subst (λ z. at + size P.edition.width z.successor ≤ length x) f k)))

    -- The right operand begins after n words, n being the number that the path gives.
    module _ (n : ℕ) (d : get_or p 0 0 ≡ 0 → ⊥) (is : n ≡ get_or p 1 0) where
      pub choice_short : length t < n → Beginning s p at x x None
      choice_short h =
          by_choice refl e (λ u P rest E F g k.
          absurd (omega (arith, h, left_within (both_there g) n (is ∙ (choice_right_marked p d P.edition.width E F g.led).0))))

      pub choice_right : (y q : List ℕ) (r : Option Reached) → q ≡ drop 2 p → Beginning (lent n t) q at x y r → Beginning s p at x y r
      choice_right y q r on given =
          let m : Beginning (drop n t) q at x y r = subst (λ z. Beginning z q at x y r) (part n t) given in
          by_choice m.same_length e (λ u P rest E F g k.
          let f : follow (Choice E F) p ≡ follow F q = choice_right_follows p d E F ∙ ap (follow F) (sym on) in
          let w = choice_right_marked p d P.edition.width E F g.led in
          let h : Given u (drop n t) P F rest q = record {
            few = g.few;
            under = under_on (drop n t) (under_on t g.under (1, behind)) (n, refl);
            there = right_there (both_there g) n (is ∙ w.0);
            mask_free = g.mask_free.1;
            led = subst (λ z. marked P.edition.width F z ≡ true) (sym on) w.1;
            short = omega (arith, g.short, ap length on, length-drop 2 p);
          } in
          subst (λ z. BeganRight u P z at x y r) (sym f) (begun m u P rest F h (subst (λ z. at + size P.edition.width z.successor ≤ length x) f k)))

  -- ── a star ──

  module _ (x : List ℕ) (at : ℕ) (q : List ℕ) (on : q ≡ drop 1 p) (e : get_or s 0 0 ≡ 24) where
    pub star_ends : (y : List ℕ) (r : Option Reached) → get_or p 0 0 ≡ 0 → EndPut (length q) 0 at x y r → Beginning s p at x y r
    unfolding size action_code
    star_ends y r d m =
        by_star m.same_length e (λ u P rest E g k.
        let f : follow (Star E) p ≡ followed internal Done q = star_end_follows p d E ∙ ap (followed internal Done) (sym on) in
        subst (λ z. BeganRight u P z at x y r) (sym f) (ended internal q m (subst (λ z. at + size P.edition.width z.successor ≤ length x) f k) refl refl))

    module _ (d : get_or p 0 0 ≡ 0 → ⊥) where
      again : (E : Term) → follow (Star E) p ≡ within (λ X. Sequence X (Star E)) (follow E q)
      again E = round_follows p d E ∙ ap (λ z. within (λ X. Sequence X (Star E)) (follow E z)) (sym on)

      pub round_full : length x < at + 2 → Beginning s p at x x None
      unfolding size
      round_full h =
          by_star refl e (λ u P rest E g k.
          let l : at + size P.edition.width (Sequence (follow E q).successor (Star E)) ≤ length x = subst (λ z. at + size P.edition.width z.successor ≤ length x) (again E) k in
          absurd (omega (arith, l, h, size_some P.edition.width (follow E q).successor, size_some P.edition.width (Star E))))

      pub round : (y : List ℕ) (r : Option Reached) → at + 2 ≤ length x → Beginning t q (at + 2) (set (set x at 22) (at + 1) (32 + length s)) y r → Beginning s p at x y r
      unfolding size
      round y r room m =
          let same : length (set (set x at 22) (at + 1) (32 + length s)) ≡ length x = length-set (set x at 22) (at + 1) (32 + length s) ∙ length-set x at 22 in
          by_star (m.same_length ∙ same) e (λ u P rest E g k.
          let l : at + size P.edition.width (Sequence (follow E q).successor (Star E)) ≤ length x = subst (λ z. at + size P.edition.width z.successor ≤ length x) (again E) k in
          let given : Given u t P E rest q = record {
            few = g.few;
            under = under_on t g.under (1, behind);
            there = subst (λ z. TermAt z P E rest) (sym behind) (star_first s P rest E g.there);
            mask_free = g.mask_free;
            led = subst (λ z. marked P.edition.width E z ≡ true) (sym on) (round_marked p d P.edition.width E g.led);
            short = omega (arith, g.short, ap length on, length-drop 1 p);
          } in
          let b = begun m u P rest E given (omega (arith, l, same, size_some P.edition.width (Star E))) in
          subst (λ z. BeganRight u P z at x y r) (sym (again E)) (then_began (follow E q) (length s) (Star E) room (part_at g.under g.there g.mask_free) b))
