-- What is left of a path is an end of it, wherever the path leads; and where it leads with each decision, and what a marked path says there (document 01,
-- "Moves, in order").
use Rattle.std.specs.Prelude.{◌≡◌, refl, Bool, ◌&&◌, cond, List, ◌++◌, ℕ, ◌≤◌, eqb, length, drop, get_or}
use Rattle.std.proofs.Math.Path.{sym}
use Rattle.std.proofs.Common.{ap, ◌∙◌, arith}
use Rattle.std.proofs.Math.Bool.{true, false}
use borrow.Author.Tests.{eq-eqb, ne_eqb, eqb-true, eqb-false}
use Rattle.eb3.specs.Terms.{Term, Done, Internal, Perform, Sequence, Choice, Star, Parallel, Guard, internal, Mask, done?}
use Rattle.eb3.specs.Reading.{pick}
use Rattle.eb3.specs.Spelling.{words}
use Rattle.eb3.specs.Sizes.{size}
use Rattle.words.specs.Checking.{last_of}
use Rattle.words.specs.Ends.{Tail}
use Rattle.words.specs.Laws.Checking.{tail_here, tail_on, tail_at, tail_short}
use Rattle.listing.specs.Positions.{code_in_front}
use Rattle.paths.specs.Paths.{Followed, followed, decision, within, follow, marked}

-- ── the rest of the path ──

cond_tail : (b : Bool) (x y : Followed) (p : List ℕ) → Tail x.rest p → Tail y.rest p → Tail (cond b x y).rest p
cond_tail true x y p h k = h
cond_tail false x y p h k = k

pick_tail : (b : Bool) (x y : Followed) (p : List ℕ) → Tail x.rest p → Tail y.rest p → Tail (pick b x y).rest p
pick_tail true x y p h k = h
pick_tail false x y p h k = k

behind_tail : (k : ℕ) (r p : List ℕ) → Tail r (drop k p) → Tail r p
behind_tail k r p h = tail_on r (drop k p) p (k, refl) h

follow_tail : (E : Term) (p : List ℕ) → Tail (follow E p).rest p
unfolding follow
follow_tail Done p = tail_here p
follow_tail Internal p = tail_here p
follow_tail (Perform a) p = tail_here p
follow_tail (Sequence E F) p = cond_tail (done? E) (follow F p) (within (λ x. Sequence x F) (follow E p)) p (follow_tail F p) (follow_tail E p)
follow_tail (Choice E F) p =
    pick_tail (eqb (decision p) 0) (follow E (drop 1 p)) (follow F (drop 2 p)) p
    (behind_tail 1 (follow E (drop 1 p)).rest p (follow_tail E (drop 1 p)))
    (behind_tail 2 (follow F (drop 2 p)).rest p (follow_tail F (drop 2 p)))
follow_tail (Star E) p =
    pick_tail (eqb (decision p) 0) (followed internal Done (drop 1 p)) (within (λ x. Sequence x (Star E)) (follow E (drop 1 p))) p (1, refl)
    (behind_tail 1 (follow E (drop 1 p)).rest p (follow_tail E (drop 1 p)))
follow_tail (Parallel Δ E F) p =
    let x = follow E (drop 1 p) in
    let y = follow E (drop 2 p) in
    let z = follow F y.rest in
    pick_tail (eqb (decision p) 0) (followed internal Done (drop 1 p)) _ p (1, refl)
    (pick_tail (eqb (decision p) 1) (within (λ u. Parallel Δ u F) x) _ p (behind_tail 1 x.rest p (follow_tail E (drop 1 p)))
    (pick_tail (eqb (decision p) 2) (within (λ u. Parallel Δ E u) (follow F (drop 2 p))) _ p (behind_tail 2 (follow F (drop 2 p)).rest p (follow_tail F (drop 2 p)))
    (behind_tail 2 z.rest p (tail_on z.rest y.rest (drop 2 p) (follow_tail E (drop 2 p)) (follow_tail F y.rest)))))
follow_tail (Guard C E) p = follow_tail E p

-- The rest of the path is its last n words, where n is the rest's length.
pub rest_of_path : (E : Term) (p : List ℕ) (n : ℕ) → n ≡ length (follow E p).rest → last_of n p ≡ (follow E p).rest
rest_of_path E p n e = ap (λ k. last_of k p) e ∙ tail_at (follow E p).rest p (follow_tail E p)

-- ── with each decision ──

both_true : (a b : Bool) → a && b ≡ true → (a ≡ true) × (b ≡ true)
both_true true b h = (refl, h)
both_true false b h = absurd (let w : ◌≡◌ {A = ℕ} 0 1 = cc in omega arith)

size_true : (n m : ℕ) (b : Bool) → eqb n m && b ≡ true → (n ≡ m) × (b ≡ true)
size_true n m b h = let w = both_true (eqb n m) b h in (eqb-true n m w.0, w.1)

module _ (p : List ℕ) where
  module _ (z : get_or p 0 0 ≡ 0) where
    pub choice_left_follows : (E F : Term) → follow (Choice E F) p ≡ follow E (drop 1 p)
    unfolding follow
    choice_left_follows E F = rw (eq-eqb (get_or p 0 0) 0 z)

    pub choice_left_marked : (w : ℕ) (E F : Term) → marked w (Choice E F) p ≡ true → marked w E (drop 1 p) ≡ true
    unfolding marked
    choice_left_marked w E F h = sym (ap (λ b. pick b (marked w E (drop 1 p)) (eqb (get_or p 1 0) (size w E) && marked w F (drop 2 p))) (eq-eqb (get_or p 0 0) 0 z)) ∙ h

    pub star_end_follows : (E : Term) → follow (Star E) p ≡ followed internal Done (drop 1 p)
    unfolding follow
    star_end_follows E = rw (eq-eqb (get_or p 0 0) 0 z)

    pub parallel_end_follows : (Δ : Mask) (E F : Term) → follow (Parallel Δ E F) p ≡ followed internal Done (drop 1 p)
    unfolding follow
    parallel_end_follows Δ E F = rw (eq-eqb (get_or p 0 0) 0 z)

  module _ (z : get_or p 0 0 ≡ 0 → ⊥) where
    pub choice_right_follows : (E F : Term) → follow (Choice E F) p ≡ follow F (drop 2 p)
    unfolding follow
    choice_right_follows E F = rw (ne_eqb (get_or p 0 0) 0 z)

    pub choice_right_marked : (w : ℕ) (E F : Term) → marked w (Choice E F) p ≡ true → (get_or p 1 0 ≡ size w E) × (marked w F (drop 2 p) ≡ true)
    unfolding marked
    choice_right_marked w E F h =
        size_true (get_or p 1 0) (size w E) (marked w F (drop 2 p))
        (sym (ap (λ b. pick b (marked w E (drop 1 p)) (eqb (get_or p 1 0) (size w E) && marked w F (drop 2 p))) (ne_eqb (get_or p 0 0) 0 z)) ∙ h)

    pub round_follows : (E : Term) → follow (Star E) p ≡ within (λ x. Sequence x (Star E)) (follow E (drop 1 p))
    unfolding follow
    round_follows E = rw (ne_eqb (get_or p 0 0) 0 z)

    pub round_marked : (w : ℕ) (E : Term) → marked w (Star E) p ≡ true → marked w E (drop 1 p) ≡ true
    unfolding marked
    round_marked w E h = sym (ap (λ b. pick b true (marked w E (drop 1 p))) (ne_eqb (get_or p 0 0) 0 z)) ∙ h

  module _ (Δ : Mask) (E F : Term) where
    right_marked : ℕ → Bool
    right_marked w = eqb (get_or p 1 0) (size w E) && marked w F (drop 2 p)

    both_marked : ℕ → Bool
    both_marked w = eqb (get_or p 1 0) (size w E) && (marked w E (drop 2 p) && marked w F (follow E (drop 2 p)).rest)

    marks : (w : ℕ) (a b c : Bool) → eqb (get_or p 0 0) 0 ≡ a → eqb (get_or p 0 0) 1 ≡ b → eqb (get_or p 0 0) 2 ≡ c → marked w (Parallel Δ E F) p ≡ true
        → pick a true (pick b (marked w E (drop 1 p)) (pick c (right_marked w) (both_marked w))) ≡ true
    unfolding marked right_marked both_marked
    marks w a b c e f g h = rw (← e, ← f, ← g) h

    pub parallel_left_follows : get_or p 0 0 ≡ 1 → follow (Parallel Δ E F) p ≡ within (λ x. Parallel Δ x F) (follow E (drop 1 p))
    unfolding follow
    parallel_left_follows e = rw (ne_eqb (get_or p 0 0) 0 (λ z. omega arith), eq-eqb (get_or p 0 0) 1 e)

    pub parallel_left_marked : (w : ℕ) → get_or p 0 0 ≡ 1 → marked w (Parallel Δ E F) p ≡ true → marked w E (drop 1 p) ≡ true
    parallel_left_marked w e h = marks w false true (eqb (get_or p 0 0) 2) (ne_eqb (get_or p 0 0) 0 (λ z. omega arith)) (eq-eqb (get_or p 0 0) 1 e) refl h

    pub parallel_right_follows : get_or p 0 0 ≡ 2 → follow (Parallel Δ E F) p ≡ within (λ y. Parallel Δ E y) (follow F (drop 2 p))
    unfolding follow
    parallel_right_follows e = rw (ne_eqb (get_or p 0 0) 0 (λ z. omega arith), ne_eqb (get_or p 0 0) 1 (λ z. omega arith), eq-eqb (get_or p 0 0) 2 e)

    pub parallel_right_marked : (w : ℕ) → get_or p 0 0 ≡ 2 → marked w (Parallel Δ E F) p ≡ true → (get_or p 1 0 ≡ size w E) × (marked w F (drop 2 p) ≡ true)
    unfolding right_marked
    parallel_right_marked w e h =
        size_true (get_or p 1 0) (size w E) (marked w F (drop 2 p))
        (marks w false false true (ne_eqb (get_or p 0 0) 0 (λ z. omega arith)) (ne_eqb (get_or p 0 0) 1 (λ z. omega arith)) (eq-eqb (get_or p 0 0) 2 e) h)

    module _ (a : get_or p 0 0 ≡ 0 → ⊥) (b : get_or p 0 0 ≡ 1 → ⊥) (c : get_or p 0 0 ≡ 2 → ⊥) where
      pub parallel_both_follows : follow (Parallel Δ E F) p
          ≡ followed (follow E (drop 2 p)).action (Parallel Δ (follow E (drop 2 p)).successor (follow F (follow E (drop 2 p)).rest).successor) (follow F (follow E (drop 2 p)).rest).rest
      unfolding follow
      parallel_both_follows = rw (ne_eqb (get_or p 0 0) 0 a, ne_eqb (get_or p 0 0) 1 b, ne_eqb (get_or p 0 0) 2 c)

      pub parallel_both_marked : (w : ℕ) → marked w (Parallel Δ E F) p ≡ true → (get_or p 1 0 ≡ size w E) × (marked w E (drop 2 p) ≡ true) × (marked w F (follow E (drop 2 p)).rest ≡ true)
      unfolding both_marked
      parallel_both_marked w h =
          let k =
          size_true (get_or p 1 0) (size w E) (marked w E (drop 2 p) && marked w F (follow E (drop 2 p)).rest)
          (marks w false false false (ne_eqb (get_or p 0 0) 0 a) (ne_eqb (get_or p 0 0) 1 b) (ne_eqb (get_or p 0 0) 2 c) h) in
          let v = both_true (marked w E (drop 2 p)) (marked w F (follow E (drop 2 p)).rest) k.1 in
          (k.0, v.0, v.1)

    -- Whether the right operand moves alone or both move, the size in the path is the left operand's.
    size_by : (w : ℕ) (c : Bool) (a : get_or p 0 0 ≡ 0 → ⊥) (b : get_or p 0 0 ≡ 1 → ⊥) → eqb (get_or p 0 0) 2 ≡ c → marked w (Parallel Δ E F) p ≡ true → get_or p 1 0 ≡ size w E
    size_by w true a b e h = (parallel_right_marked w (eqb-true (get_or p 0 0) 2 e) h).0
    size_by w false a b e h = (parallel_both_marked a b (eqb-false (get_or p 0 0) 2 e) w h).0

    pub size_marked : (w : ℕ) → (get_or p 0 0 ≡ 0 → ⊥) → (get_or p 0 0 ≡ 1 → ⊥) → marked w (Parallel Δ E F) p ≡ true → get_or p 1 0 ≡ size w E
    size_marked w a b h = size_by w (eqb (get_or p 0 0) 2) a b refl h

-- What is left is no longer than the path.
pub rest_short : (E : Term) (p : List ℕ) → length (follow E p).rest ≤ length p
rest_short E p = tail_short (follow E p).rest p (follow_tail E p)

-- ── a term without operands ──

-- Done and the internal action have one word and lead to Done.
pub leaf : (w : ℕ) (G : Term) → (code_in_front G ≡ 21 → ⊥) → (code_in_front G ≡ 22 → ⊥) → (code_in_front G ≡ 23 → ⊥) → (code_in_front G ≡ 24 → ⊥) → (code_in_front G ≡ 25 → ⊥) → (code_in_front G ≡ 26 → ⊥)
    → (p rest : List ℕ) → (follow G p ≡ followed internal Done p) × (drop 1 (words w G ++ rest) ≡ rest)
unfolding follow words code_in_front
leaf w Done a b c d e f p rest = (refl, refl)
leaf w Internal a b c d e f p rest = (refl, refl)
leaf w (Perform v) a b c d e f p rest = absurd (a refl)
leaf w (Sequence E F) a b c d e f p rest = absurd (b refl)
leaf w (Choice E F) a b c d e f p rest = absurd (c refl)
leaf w (Star E) a b c d e f p rest = absurd (d refl)
leaf w (Parallel Δ E F) a b c d e f p rest = absurd (e refl)
leaf w (Guard C E) a b c d e f p rest = absurd (f refl)
