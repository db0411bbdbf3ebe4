-- A case for each way that the beginning of a parallel's successor returns (document 01, "Moves, in order"). The premises have the form of what the code
-- says there.
use mathlib.Core.Path.{◌≡◌, refl, sym, ap, ◌∙◌, subst}
use mathlib.Core.Bool.{Bool, true, false, cond}
use mathlib.Core.List.{List, [], ◌∷◌, ◌++◌}
use Prim.Native.Nat.{ℕ, ◌+◌, ◌≤◌, ◌<◌}
use native.Mathlib.Omega.{arith}
use Rattle.std.specs.Prelude.{Option, None, Some}
use Rattle.std.proofs.lemmas.Option.{none-some}
use lib.Dec.{eqb}
use lib.ListN.{length, drop, get_or, set, length-append, length-drop, length-set}
use borrow.Author.Tests.{ne_eqb}
use Rattle.eb3.specs.Scopes.{Scope}
use Rattle.eb3.specs.Terms.{Term, Done, Parallel, Mask, Action, internal}
use Rattle.eb3.specs.Reading.{pick}
use Rattle.eb3.specs.Spelling.{words}
use Rattle.eb3.specs.Sizes.{size}
use Rattle.words.specs.Checking.{last_of}
use Rattle.words.specs.Laws.Checking.{part}
use Rattle.actions.specs.Codes.{action_code}
use Rattle.listing.specs.Positions.{TwoAt}
use Rattle.listing.specs.Laws.Positions.{second_at}
use Rattle.paths.specs.Paths.{Followed, followed, within, follow, marked}
use Rattle.sharing.specs.Shared.{Beside, no_mask, term_of, shared_words, Unmasked}
use Rattle.sharing.specs.Laws.Shared.{size_some, shared_short}
use Rattle.sharing.specs.Beginning.{Reached, reached, BeganRight, Beginning, EndPut, TwoRight, LeftBegun, BothBegun}
use Rattle.successors.specs.Laws.Following.{rest_of_path, rest_short, parallel_end_follows, parallel_left_follows, parallel_left_marked, parallel_right_follows, parallel_right_marked, parallel_both_follows, parallel_both_marked, size_marked}
use Rattle.sharing.proofs.BeginningPuts.{put_one, one_put, put_behind}
use Rattle.sharing.proofs.BeginningEnds.{Under, under_on, last_tail, one_word, zero_mask_is}
use Rattle.successors.specs.Laws.Terms.{parallel_two, parallel_long, right_there, left_within}
use Rattle.sharing.proofs.BeginningCodes.{reached_same, further, same_at, same_left, same_action}
use Rattle.sharing.proofs.BeginningGiven.{Skipped, lent, Given, begun, by_parallel, ended}

-- The word of what is at the front of v.
abbrev pub word_of : List ℕ → ℕ
word_of v = cond (eqb (get_or v 0 0) 30) 30 (32 + length v)

-- ── the left operand moves ──

-- What a successor's words take is what its term takes at most.
words_fit : {u : List ℕ} {P : Scope} {f : Followed} {at : ℕ} {x y : List ℕ} {r : Option Reached} (b : BeganRight u P f at x y r) → length (shared_words b.shared) ≤ size P.edition.width f.successor
words_fit {u} {P} b = subst (λ G. length (shared_words b.shared) ≤ size P.edition.width G) b.is_successor (shared_short P.edition.width b.shared)

-- What is known of the left operand.
left_given : (e p : List ℕ) {u rest : List ℕ} {P : Scope} {E F : Term} → length u ≤ 65503 → length e ≤ length u → e ≡ last_of (length e) u → TwoAt e P E F rest → Unmasked E
    → marked P.edition.width E p ≡ true → length p ≤ 65535 → Given u e P E (words P.edition.width F ++ rest) p
left_given e p l a b t c d s = record { few = l; under = record { fewer = a; end = b }; there = t.first; mask_free = c; led = d; short = s }

-- Where there is room, something is written.
lost : {e p x y : List ℕ} {at : ℕ} {u rest : List ℕ} {P : Scope} (E : Term) → Beginning e p at x y None → Given u e P E rest p → at + size P.edition.width (follow E p).successor ≤ length x → ⊥
lost {u = u} {rest} {P} E m g k = none-some _ (begun m u P rest E g k).answered

pub left_lost : (e p x y : List ℕ) (at : ℕ) → Beginning e p at x y None → LeftBegun e p at x y None
left_lost e p x y at m = record { same_length = m.same_length; right = λ u P E F rest l a b t c f d s k. absurd (lost E m (left_given e p l a b t c d s) (omega (arith, k))) }

module _ (e p x y : List ℕ) (at i left a : ℕ) (m : Beginning e p at x y (Some (reached i left a))) where
  pub left_without_room : length y ≤ i → LeftBegun e p at x y None
  left_without_room h = record {
    same_length = m.same_length;
    right = λ u P E F rest l a b t c f d s k.
        let g = begun m u P (words P.edition.width F ++ rest) E (left_given e p l a b t c d s) (omega (arith, k)) in
        absurd (omega (arith, h, k, m.same_length, same_at g.answered, words_fit g));
  }

  pub left_written : (n : ℕ) (v : List ℕ) (w : ℕ) → i < length y → Skipped e n → v ≡ last_of n e → w ≡ word_of v → LeftBegun e p at x (set y i w) (Some (reached (i + 1) left a))
  left_written n v w h skip is fw = record {
    same_length = length-set y i w ∙ m.same_length;
    right = λ u P E F rest l a b t c f d s k.
        let given = left_given e p l a b t c d s in
        let g = begun m u P (words P.edition.width F ++ rest) E given (omega (arith, k)) in
        let end : i ≡ at + length (shared_words g.shared) = same_at g.answered in
        let o = one_word (under_on v given.under (last_tail n e v is)) (second_at n v t (skip.1 P E (words P.edition.width F ++ rest) t.first) is) f in
        let q : shared_words o.shared ≡ w ∷ [] = o.word ∙ ap (λ j. j ∷ []) (sym fw) in
        let X = shared_words g.shared in
        let Y = shared_words o.shared in
        let next : i + 1 ≡ at + length (X ++ Y) = omega (arith, end, length-append X Y, ap length q) in
        record {
          X = g.shared;
          Y = o.shared;
          X_stands = g.stands;
          Y_stands = o.stands;
          X_is = g.is_successor;
          Y_is = o.is;
          written = put_behind x X Y y (set y i w) at i (omega (arith, end, h, m.same_length)) end g.written (one_put y i w Y h q);
          answered = reached_same next (same_left g.answered) (same_action g.answered);
        };
  }

-- ── both operands move ──

pub both_lost : (e p x y : List ℕ) (n at : ℕ) → Beginning e p at x y None → BothBegun e n p at x y None
both_lost e p x y n at m = record {
  same_length = m.same_length;
  right = λ u P E F rest l a b t is c f d j s k. absurd (lost E m (left_given e p l a b t c d s) (omega (arith, k)));
}

module _ (e p q x y z : List ℕ) (n at i left a : ℕ) (m : Beginning e p at x y (Some (reached i left a))) (is : q ≡ last_of left p) where
  module _ {o : Option Reached} (given : Beginning (lent n e) q i y z o) where
    there : Beginning (drop n e) q i y z o
    there = subst (λ l. Beginning l q i y z o) (part n e) given

    both_long : length z ≡ length x
    both_long = there.same_length ∙ m.same_length

    module _ {u rest : List ℕ} {P : Scope} {E F : Term} (known : Given u e P E (words P.edition.width F ++ rest) p) (t : TwoAt e P E F rest) (isn : n ≡ size P.edition.width E) (f : Unmasked F)
        (j : marked P.edition.width F (follow E p).rest ≡ true) (k : at + (size P.edition.width (follow E p).successor + size P.edition.width (follow F (follow E p).rest).successor) ≤ length x) where
      left_one : BeganRight u P (follow E p) at x y (Some (reached i left a))
      left_one = begun m u P (words P.edition.width F ++ rest) E known (omega (arith, k))

      on : q ≡ (follow E p).rest
      on = is ∙ rest_of_path E p left (same_left left_one.answered)

      right_known : Given u (drop n e) P F rest q
      right_known = record {
        few = known.few;
        under = under_on (drop n e) known.under (n, refl);
        there = right_there t n isn;
        mask_free = f;
        led = subst (λ w. marked P.edition.width F w ≡ true) (sym on) j;
        short = omega (arith, ap length on, rest_short E p, known.short);
      }

      right_one : BeganRight u P (follow F q) i y z o
      right_one =
          let room : i + size P.edition.width (follow F (follow E p).rest).successor ≤ length y = omega (arith, same_at left_one.answered, words_fit left_one, k, m.same_length) in
          begun there u P rest F right_known (subst (λ w. i + size P.edition.width (follow F w).successor ≤ length y) (sym on) room)

  pub both_lost_second : Beginning (lent n e) q i y z None → BothBegun e n p at x z None
  both_lost_second given = record {
    same_length = both_long given;
    right = λ u P E F rest l a b t isn c f d j s k. absurd (none-some _ (right_one given (left_given e p l a b t c d s) t isn f j k).answered);
  }

  pub both_written : (i' left' b : ℕ) → Beginning (lent n e) q i y z (Some (reached i' left' b)) → BothBegun e n p at x z (Some (reached i' left' a))
  both_written i' left' b given = record {
    same_length = both_long given;
    right = λ u P E F rest l a' b' t isn c f d j s k.
        let known = left_given e p l a' b' t c d s in
        let g = left_one given known t isn f j k in
        let h = right_one given known t isn f j k in
        let w = on given known t isn f j k in
        let X = shared_words g.shared in
        let Y = shared_words h.shared in
        let ex : i ≡ at + length X = same_at g.answered in
        let ey : i' ≡ at + length (X ++ Y) = omega (arith, ex, same_at h.answered, length-append X Y) in
        record {
          X = g.shared;
          Y = h.shared;
          X_stands = g.stands;
          Y_stands = h.stands;
          X_is = g.is_successor;
          Y_is = h.is_successor ∙ ap (λ v. (follow F v).successor) w;
          written = put_behind x X Y y z at i (omega (arith, ex, words_fit g, k)) ex g.written h.written;
          answered = reached_same ey (same_left h.answered ∙ ap (λ v. length (follow F v).rest) w) (same_action g.answered);
        };
  }

-- ── after the code of a parallel ──

beside : {u : List ℕ} {P : Scope} {at : ℕ} {x y : List ℕ} {r : Option Reached} (Δ : Mask) (E F : Term) (ρ : Action) (rest : List ℕ) → Δ ≡ no_mask → at < length x → TwoRight u P E F ρ rest (at + 1) (set x at 25) y r
    → BeganRight u P (followed ρ (Parallel Δ E F) rest) at x y r
unfolding term_of shared_words
beside {u} {P} {at} {x} {y} {r} Δ E F ρ rest mask_free room t =
    let w = shared_words t.X ++ shared_words t.Y in
    let n : at + 1 + length w ≡ at + length (25 ∷ w) = omega arith in
    record {
      shared = Beside t.X t.Y;
      stands = (t.X_stands, t.Y_stands);
      is_successor = ap (λ d. Parallel d (term_of t.X) (term_of t.Y)) (sym mask_free) ∙ (ap (λ G. Parallel Δ G (term_of t.Y)) t.X_is ∙ ap (λ G. Parallel Δ E G) t.Y_is);
      written = put_behind x (25 ∷ []) w (set x at 25) y at (at + 1) (omega (arith, room)) refl (put_one x at 25 room) t.written;
      answered = further n t.answered;
    }

-- Whatever moves, a parallel is left.
moving_size : (width : ℕ) (p : List ℕ) (Δ : Mask) (E F : Term) → (get_or p 0 0 ≡ 0 → ⊥) → 5 ≤ size width (follow (Parallel Δ E F) p).successor
unfolding follow size
moving_size width p Δ E F h = subst (λ b. 5 ≤ size width (pick b (followed internal Done (drop 1 p)) (other (eqb (get_or p 0 0) 1) (eqb (get_or p 0 0) 2))).successor) (sym (ne_eqb (get_or p 0 0) 0 h)) (go (eqb (get_or p 0 0) 1) (eqb (get_or p 0 0) 2))
  where
    other : Bool → Bool → Followed
    other a b =
        pick a (within (λ X. Parallel Δ X F) (follow E (drop 1 p)))
        (pick b (within (λ X. Parallel Δ E X) (follow F (drop 2 p)))
        (followed (follow E (drop 2 p)).action (Parallel Δ (follow E (drop 2 p)).successor (follow F (follow E (drop 2 p)).rest).successor) (follow F (follow E (drop 2 p)).rest).rest))

    go : (a b : Bool) → 5 ≤ size width (other a b).successor
    go true b = omega arith
    go false true = omega arith
    go false false = omega arith

module _ (s p x : List ℕ) (at : ℕ) (code : get_or s 0 0 ≡ 25) where
  pub parallel_ends : (y q : List ℕ) (r : Option Reached) → q ≡ drop 1 p → get_or p 0 0 ≡ 0 → EndPut (length q) 0 at x y r → Beginning s p at x y r
  unfolding size action_code
  parallel_ends y q r on d m =
      by_parallel m.same_length code (λ u P rest Δ E F g k.
      let f : follow (Parallel Δ E F) p ≡ followed internal Done q = parallel_end_follows p d Δ E F ∙ ap (followed internal Done) (sym on) in
      subst (λ z. BeganRight u P z at x y r) (sym f) (ended internal q m (subst (λ z. at + size P.edition.width z.successor ≤ length x) f k) refl refl))

  pub parallel_short : length s < 5 → Beginning s p at x x None
  parallel_short h = by_parallel refl code (λ u P rest Δ E F g k. absurd (omega (arith, h, parallel_long s P rest Δ E F g.there)))

  pub parallel_full : (get_or p 0 0 ≡ 0 → ⊥) → length x < at + 2 → Beginning s p at x x None
  parallel_full d h = by_parallel refl code (λ u P rest Δ E F g k. absurd (omega (arith, h, k, moving_size P.edition.width p Δ E F d)))

  -- Its operands come after five words.
  module _ (e : List ℕ) (cut : e ≡ drop 5 s) where
    sides : {u rest : List ℕ} {P : Scope} {Δ : Mask} {E F : Term} → Given u s P (Parallel Δ E F) rest p → TwoAt e P E F rest
    sides {u} {rest} {P} {Δ} {E} {F} g = subst (λ z. TwoAt z P E F rest) (sym cut) (parallel_two s P rest Δ E F g.there)

    no_label : {u rest : List ℕ} {P : Scope} {Δ : Mask} {E F : Term} → Given u s P (Parallel Δ E F) rest p → Δ ≡ no_mask
    no_label {u} {rest} {P} {Δ} {E} {F} g = zero_mask_is Δ g.there.fits.0 g.mask_free.0

    below : {u rest : List ℕ} {P : Scope} {Δ : Mask} {E F : Term} → Given u s P (Parallel Δ E F) rest p → Under u e
    below g = under_on e g.under (5, cut)

    pub parallel_left : (y q : List ℕ) (r : Option Reached) → q ≡ drop 1 p → get_or p 0 0 ≡ 1 → at + 2 ≤ length x → LeftBegun e q (at + 1) (set x at 25) y r → Beginning s p at x y r
    unfolding size
    parallel_left y q r on d room m =
        by_parallel (m.same_length ∙ length-set x at 25) code (λ u P rest Δ E F g k.
        let f : follow (Parallel Δ E F) p ≡ within (λ X. Parallel Δ X F) (follow E q) = parallel_left_follows p Δ E F d ∙ ap (λ c. within (λ X. Parallel Δ X F) (follow E c)) (sym on) in
        let l : at + size P.edition.width (Parallel Δ (follow E q).successor F) ≤ length x = subst (λ z. at + size P.edition.width z.successor ≤ length x) f k in
        let c : marked P.edition.width E q ≡ true = subst (λ z. marked P.edition.width E z ≡ true) (sym on) (parallel_left_marked p Δ E F P.edition.width d g.led) in
        let i = below g in
        let t = m.right u P E F rest g.few i.fewer i.end (sides g) g.mask_free.1 g.mask_free.2 c (omega (arith, g.short, ap length on, length-drop 1 p)) (omega (arith, l, length-set x at 25, size_some P.edition.width F)) in
        subst (λ z. BeganRight u P z at x y r) (sym f) (beside Δ (follow E q).successor F (follow E q).action (follow E q).rest (no_label g) (omega (arith, room)) t))

    module _ (n : ℕ) (is : n ≡ get_or p 1 0) where
      pub parallel_right : (y q : List ℕ) (r : Option Reached) (w : ℕ) → q ≡ drop 2 p → get_or p 0 0 ≡ 2 → at + 2 ≤ length x → w ≡ word_of e
          → Beginning (lent n e) q (at + 2) (set (set x at 25) (at + 1) w) y r → Beginning s p at x y r
      unfolding size
      parallel_right y q r w on d room fw given =
          let m : Beginning (drop n e) q (at + 2) (set (set x at 25) (at + 1) w) y r = subst (λ z. Beginning z q (at + 2) (set (set x at 25) (at + 1) w) y r) (part n e) given in
          let same : length (set (set x at 25) (at + 1) w) ≡ length x = length-set (set x at 25) (at + 1) w ∙ length-set x at 25 in
          let h : at + 1 < length (set x at 25) = omega (arith, room, length-set x at 25) in
          by_parallel (m.same_length ∙ same) code (λ u P rest Δ E F g k.
          let f : follow (Parallel Δ E F) p ≡ within (λ X. Parallel Δ E X) (follow F q) = parallel_right_follows p Δ E F d ∙ ap (λ c. within (λ X. Parallel Δ E X) (follow F c)) (sym on) in
          let l : at + size P.edition.width (Parallel Δ E (follow F q).successor) ≤ length x = subst (λ z. at + size P.edition.width z.successor ≤ length x) f k in
          let c = parallel_right_marked p Δ E F P.edition.width d g.led in
          let i = below g in
          let known : Given u (drop n e) P F rest q = record {
            few = g.few;
            under = under_on (drop n e) i (n, refl);
            there = right_there (sides g) n (is ∙ c.0);
            mask_free = g.mask_free.2;
            led = subst (λ z. marked P.edition.width F z ≡ true) (sym on) c.1;
            short = omega (arith, g.short, ap length on, length-drop 2 p);
          } in
          let b = begun m u P rest F known (omega (arith, l, same, size_some P.edition.width E)) in
          let o = one_word i (sides g).first g.mask_free.1 in
          let v : shared_words o.shared ≡ w ∷ [] = o.word ∙ ap (λ j. j ∷ []) (sym fw) in
          let X = shared_words o.shared in
          let Y = shared_words b.shared in
          let j : at + 2 + length Y ≡ at + 1 + length (X ++ Y) = omega (arith, length-append X Y, ap length v) in
          let t : TwoRight u P E (follow F q).successor (follow F q).action (follow F q).rest (at + 1) (set x at 25) y r = record {
            X = o.shared;
            Y = b.shared;
            X_stands = o.stands;
            Y_stands = b.stands;
            X_is = o.is;
            Y_is = b.is_successor;
            written = put_behind (set x at 25) X Y (set (set x at 25) (at + 1) w) y (at + 1) (at + 2) (omega (arith, h, ap length v)) (omega (arith, ap length v)) (one_put (set x at 25) (at + 1) w X h v) b.written;
            answered = further {i = at + 2 + length Y} {j = at + 1 + length (X ++ Y)} j b.answered;
          } in
          subst (λ z. BeganRight u P z at x y r) (sym f) (beside Δ E (follow F q).successor (follow F q).action (follow F q).rest (no_label g) (omega (arith, room)) t))

      module _ (d0 : get_or p 0 0 ≡ 0 → ⊥) (d1 : get_or p 0 0 ≡ 1 → ⊥) where
        pub parallel_cut : length e < n → Beginning s p at x x None
        parallel_cut h =
            by_parallel refl code (λ u P rest Δ E F g k.
            absurd (omega (arith, h, left_within (sides g) n (is ∙ size_marked p Δ E F P.edition.width d0 d1 g.led))))

        pub parallel_both : (y q : List ℕ) (r : Option Reached) → q ≡ drop 2 p → (get_or p 0 0 ≡ 2 → ⊥) → at + 2 ≤ length x → BothBegun e n q (at + 1) (set x at 25) y r → Beginning s p at x y r
        unfolding size
        parallel_both y q r on d2 room m =
            by_parallel (m.same_length ∙ length-set x at 25) code (λ u P rest Δ E F g k.
            let c = parallel_both_marked p Δ E F d0 d1 d2 P.edition.width g.led in
            let f : follow (Parallel Δ E F) p ≡ followed (follow E q).action (Parallel Δ (follow E q).successor (follow F (follow E q).rest).successor) (follow F (follow E q).rest).rest =
            parallel_both_follows p Δ E F d0 d1 d2
            ∙ ap (λ z. followed (follow E z).action (Parallel Δ (follow E z).successor (follow F (follow E z).rest).successor) (follow F (follow E z).rest).rest) (sym on) in
            let l : at + size P.edition.width (Parallel Δ (follow E q).successor (follow F (follow E q).rest).successor) ≤ length x = subst (λ z. at + size P.edition.width z.successor ≤ length x) f k in
            let mE : marked P.edition.width E q ≡ true = subst (λ z. marked P.edition.width E z ≡ true) (sym on) c.1 in
            let mF : marked P.edition.width F (follow E q).rest ≡ true = subst (λ z. marked P.edition.width F (follow E z).rest ≡ true) (sym on) c.2 in
            let i = below g in
            let t = m.right u P E F rest g.few i.fewer i.end (sides g) (is ∙ c.0) g.mask_free.1 g.mask_free.2 mE mF (omega (arith, g.short, ap length on, length-drop 2 p)) (omega (arith, l, length-set x at 25)) in
            subst (λ z. BeganRight u P z at x y r) (sym f) (beside Δ (follow E q).successor (follow F (follow E q).rest).successor (follow E q).action (follow F (follow E q).rest).rest (no_label g) (omega (arith, room)) t))
