-- How many moves of a term show and what their paths are, by the term's form.
use mathlib.Core.Path.{◌≡◌, refl, sym, ap, ◌∙◌}
use mathlib.Core.Bool.{Bool, true, false, not, ◌&&◌, ◌||◌, cond}
use mathlib.Core.List.{List, [], ◌∷◌, ◌++◌, map}
use Prim.Native.Nat.{ℕ, suc, ◌+◌, ◌-◌, ◌≤◌, ◌<◌}
use native.Mathlib.Omega.{arith}
use lib.Bits.{bit_or}
use lib.ListN.{length, length-append, length-map}
use borrow.Author.Tests.{lt-ltb, le-ltb, eq-eqb, ne_eqb, eqb-true}
use Rattle.eb3.specs.Generic.Lists.{filter}
use Rattle.eb3.specs.Expressions.{Cond}
use Rattle.eb3.specs.Scopes.{Scope}
use Rattle.eb3.specs.Reading.{pick}
use Rattle.eb3.specs.Terms.{Term, Done, Internal, Perform, Sequence, Choice, Star, Parallel, Guard, VisibleAction, visible, Mask, done?}
use Rattle.eb3.specs.Moves.{Move, moves}
use Rattle.eb3.specs.Sizes.{size, zero_mask}
use Rattle.actions.specs.Codes.{action_code, masked_code}
use Rattle.actions.specs.Sets.{in_set, mask_set, has_all}
use Rattle.actions.specs.Laws.Sets.{in_mask_set, in_either, within_set}
use Rattle.listing.specs.Listing.{Fits, code_of, codes, holding, room}
use Rattle.listing.specs.Combining.{outside, pairs, combined}
use Rattle.listing.specs.Laws.Codes.{codes_done, codes_internal, codes_perform, codes_after_done, codes_sequence, codes_choice, codes_star, codes_both_done, codes_parallel, codes_guard, codes_shut}
use Rattle.listing.specs.Laws.Outside.{outside_append, pairs_none, pairs_none_right}
use Rattle.listing.specs.Rooms.{two_room}
use Rattle.listing.specs.Laws.Rooms.{room_zero, room_masked}
use Rattle.paths.specs.Paths.{shown?, shown, path, path_in_turn, paired, idle}
use Rattle.paths.proofs.ShownLaws.{shown_all, idle_none}
use Rattle.derivation.specs.Derived.{move_count, shown_count}
use Rattle.derivation.specs.Searching.{shown_combined}
use Rattle.derivation.specs.Arms.{masked_path}
use Rattle.derivation.proofs.Lists.{outside_twice, outside_pairs}

filtered : (x : ℕ) (l : List Move) → length (filter (shown? x) l) ≡ length (outside (in_set x) (map code_of l))
unfolding outside
filtered x [] = refl
filtered x (m ∷ l) = go (in_set x (code_of m)) (filter (shown? x) l) (outside (in_set x) (map code_of l)) (filtered x l)
  where
    go : (b : Bool) (o : List Move) (u : List ℕ) → length o ≡ length u → length (cond (not b) (m ∷ o) o) ≡ length (cond b u (code_of m ∷ u))
    go true o u e = e
    go false o u e = ap suc e

module _ (M : List ℕ) (x : ℕ) where
  abbrev g : Cond → Bool
  g = holding M

  pub codes_idle : (E : Term) → idle E ≡ true → codes g E ≡ []
  unfolding codes
  codes_idle E h = ap (map code_of) (idle_none g E h)

  pub count_codes : (E : Term) → shown_count x M E ≡ length (outside (in_set x) (codes g E))
  unfolding shown codes
  count_codes E = filtered x (moves g E)

  count_of : (E : Term) (o : List ℕ) → codes g E ≡ o → shown_count x M E ≡ length (outside (in_set x) o)
  count_of E o e = count_codes E ∙ ap (λ l. length (outside (in_set x) l)) e

  pub count_done : shown_count x M Done ≡ 0
  unfolding outside
  count_done = count_of Done [] (codes_done g)

  pub count_internal : shown_count x M Internal ≡ 1
  unfolding outside in_set
  count_internal = count_of Internal (0 ∷ []) (codes_internal g)

  pub count_hidden : (a : VisibleAction) → in_set x (action_code (visible a)) ≡ true → shown_count x M (Perform a) ≡ 0
  unfolding outside
  count_hidden a h = count_of (Perform a) _ (codes_perform g a) ∙ ap (λ b. length (cond b [] (action_code (visible a) ∷ []))) h

  pub count_shows : (a : VisibleAction) → in_set x (action_code (visible a)) ≡ false → shown_count x M (Perform a) ≡ 1
  unfolding outside
  count_shows a h = count_of (Perform a) _ (codes_perform g a) ∙ ap (λ b. length (cond b [] (action_code (visible a) ∷ []))) h

  pub count_after_done : (E F : Term) → done? E ≡ true → shown_count x M (Sequence E F) ≡ shown_count x M F
  count_after_done E F h = count_of (Sequence E F) (codes g F) (codes_after_done g E F h) ∙ sym (count_codes F)

  pub count_sequence : (E F : Term) → done? E ≡ false → shown_count x M (Sequence E F) ≡ shown_count x M E
  count_sequence E F h = count_of (Sequence E F) (codes g E) (codes_sequence g E F h) ∙ sym (count_codes E)

  pub count_choice : (E F : Term) → shown_count x M (Choice E F) ≡ shown_count x M E + shown_count x M F
  count_choice E F = omega (
    arith,
    count_of (Choice E F) (codes g E ++ codes g F) (codes_choice g E F) ∙ ap length (outside_append (in_set x) (codes g E) (codes g F)),
    length-append (outside (in_set x) (codes g E)) (outside (in_set x) (codes g F)),
    count_codes E,
    count_codes F,
  )

  star_front : (o : List ℕ) → length (outside (in_set x) (0 ∷ o)) ≡ 1 + length (outside (in_set x) o)
  unfolding outside in_set
  star_front o = omega arith

  pub count_star : (E : Term) → shown_count x M (Star E) ≡ 1 + shown_count x M E
  count_star E = omega (arith, count_of (Star E) (0 ∷ codes g E) (codes_star g E), star_front (codes g E), count_codes E)

  pub count_guard : (C : Cond) (E : Term) → g C ≡ true → shown_count x M (Guard C E) ≡ shown_count x M E
  count_guard C E h = count_of (Guard C E) (codes g E) (codes_guard g C E h) ∙ sym (count_codes E)

  pub count_shut : (C : Cond) (E : Term) → g C ≡ false → shown_count x M (Guard C E) ≡ 0
  unfolding outside
  count_shut C E h = count_of (Guard C E) [] (codes_shut g C E h)

  pub path_after_done : (w : ℕ) (E F : Term) (k : ℕ) → done? E ≡ true → path w x g F k ≡ path w x g (Sequence E F) k
  unfolding path
  path_after_done w E F k h = ap (λ b. cond b (path w x g F k) (path w x g E k)) (sym h)

  pub path_sequence : (w : ℕ) (E F : Term) (k : ℕ) → done? E ≡ false → path w x g E k ≡ path w x g (Sequence E F) k
  unfolding path
  path_sequence w E F k h = ap (λ b. cond b (path w x g F k) (path w x g E k)) (sym h)

  -- c is the decision for the first of two operands
  abbrev turn : ℕ → ℕ → Term → Term → ℕ → List ℕ
  turn w c E F k = path_in_turn c (size w E) (shown_count x M E) (path w x g E) (path w x g F) k

  pub path_choice : (w : ℕ) (E F : Term) (k : ℕ) → turn w 0 E F k ≡ path w x g (Choice E F) k
  unfolding path
  path_choice w E F k = refl

  pub path_end : (w : ℕ) (E : Term) (k : ℕ) → k ≡ 0 → 0 ∷ [] ≡ path w x g (Star E) k
  unfolding path
  path_end w E k e = ap (λ b. pick b (0 ∷ []) (1 ∷ path w x g E (k - 1))) (sym (eq-eqb k 0 e))

  pub path_round : (w : ℕ) (E : Term) (k : ℕ) → (k ≡ 0 → ⊥) → 1 ∷ path w x g E (k - 1) ≡ path w x g (Star E) k
  unfolding path
  path_round w E k e = ap (λ b. pick b (0 ∷ []) (1 ∷ path w x g E (k - 1))) (sym (ne_eqb k 0 e))

  pub path_guard : (w : ℕ) (C : Cond) (E : Term) (k : ℕ) → path w x g E k ≡ path w x g (Guard C E) k
  unfolding path
  path_guard w C E k = refl

  pub path_internal : (w : ℕ) (k : ℕ) → [] ≡ path w x g Internal k
  unfolding path
  path_internal w k = refl

  pub path_perform : (w : ℕ) (a : VisibleAction) (k : ℕ) → [] ≡ path w x g (Perform a) k
  unfolding path
  path_perform w a k = refl

  pub two_first : (w : ℕ) (E F : Term) (c k : ℕ) → k < shown_count x M E → c ∷ path w x g E k ≡ turn w c E F k
  two_first w E F c k h = ap (λ b. pick b (c ∷ path w x g E k) ((c + 1) ∷ size w E ∷ path w x g F (k - shown_count x M E))) (sym (lt-ltb k (shown_count x M E) h))

  pub two_second : (w : ℕ) (E F : Term) (c k : ℕ) → shown_count x M E ≤ k → (c + 1) ∷ size w E ∷ path w x g F (k - shown_count x M E) ≡ turn w c E F k
  two_second w E F c k h = ap (λ b. pick b (c ∷ path w x g E k) ((c + 1) ∷ size w E ∷ path w x g F (k - shown_count x M E))) (sym (le-ltb k (shown_count x M E) h))

  -- ── a parallel ──

  -- of both sides' numbers, δ the mask's set
  module _ (E F : Term) (δ : ℕ) where
    abbrev both : ℕ
    both = length (shown_combined x δ (codes g E) (codes g F))

    both_is : both ≡ length (outside (in_set (bit_or x δ)) (codes g E)) + (length (outside (in_set (bit_or x δ)) (codes g F)) + length (pairs (paired x δ) (codes g E) (codes g F)))
    unfolding shown_combined
    both_is = omega (
      arith,
      length-append (outside (in_set (bit_or x δ)) (codes g E)) (outside (in_set (bit_or x δ)) (codes g F) ++ pairs (paired x δ) (codes g E) (codes g F)),
      length-append (outside (in_set (bit_or x δ)) (codes g F)) (pairs (paired x δ) (codes g E) (codes g F)),
    )

    covered_pair : has_all x δ ≡ true → (c : ℕ) → paired x δ c ≡ false
    covered_pair h c = go (in_set x c) (in_set δ c) (within_set x δ c h)
      where
        go : (a b : Bool) → (a ≡ false → b ≡ false) → (b && not a) ≡ false
        go true true f = refl
        go true false f = refl
        go false true f = f refl
        go false false f = refl

    -- the mask hides no more than x: both sides' moves that show
    pub both_covered : has_all x δ ≡ true → both ≡ shown_count x M E + shown_count x M F
    both_covered h =
        let e : bit_or x δ ≡ x = eqb-true (bit_or x δ) x h in
        omega (
          arith,
          both_is,
          ap length (pairs_none (paired x δ) (covered_pair h) (codes g E) (codes g F)),
          ap (λ y. length (outside (in_set y) (codes g E))) e,
          ap (λ y. length (outside (in_set y) (codes g F))) e,
          count_codes E,
          count_codes F,
        )

  module _ (Δ : Mask) (E F : Term) where
    abbrev δ : ℕ
    δ = mask_set Δ

    hidden : (c : ℕ) → in_set (bit_or x δ) c ≡ (in_set x c || masked_code Δ c)
    hidden c = in_either x δ c ∙ ap (λ b. in_set x c || b) (in_mask_set Δ c)

    shown_pair : (c : ℕ) → paired x δ c ≡ (masked_code Δ c && not (in_set x c))
    shown_pair c = ap (λ b. b && not (in_set x c)) (in_mask_set Δ c)

    shown_of : (xs ys : List ℕ) → outside (in_set x) (combined (masked_code Δ) xs ys) ≡ shown_combined x δ xs ys
    unfolding combined shown_combined
    shown_of xs ys =
        outside_append (in_set x) (outside (masked_code Δ) xs) (outside (masked_code Δ) ys ++ pairs (masked_code Δ) xs ys)
        ∙ ap (λ l. outside (in_set x) (outside (masked_code Δ) xs) ++ l) (outside_append (in_set x) (outside (masked_code Δ) ys) (pairs (masked_code Δ) xs ys))
        ∙ (λ i. outside_twice (in_set x) (masked_code Δ) (in_set (bit_or x δ)) hidden xs i
        ++ (outside_twice (in_set x) (masked_code Δ) (in_set (bit_or x δ)) hidden ys i ++ outside_pairs (in_set x) (masked_code Δ) (paired x δ) shown_pair xs ys i))

    pub count_both_done : (done? E && done? F) ≡ true → shown_count x M (Parallel Δ E F) ≡ 1
    unfolding outside in_set
    count_both_done h = count_of (Parallel Δ E F) (0 ∷ []) (codes_both_done g Δ E F h)

    module _ (h : (done? E && done? F) ≡ false) where
      pub count_masked : (P : Scope) → Fits P E → Fits P F → shown_count x M (Parallel Δ E F) ≡ length (shown_combined x δ (codes g E) (codes g F))
      count_masked P e f = count_of (Parallel Δ E F) _ (codes_parallel g P Δ E F h e f) ∙ ap length (shown_of (codes g E) (codes g F))

      pub count_covered : (P : Scope) → has_all x δ ≡ true → Fits P E → Fits P F → shown_count x M (Parallel Δ E F) ≡ shown_count x M E + shown_count x M F
      count_covered P z e f = count_masked P e f ∙ both_covered E F δ z

      -- the room that both sides' lists take
      pub room_sides : two_room g E F ≤ room g (Parallel Δ E F)
      room_sides = go (zero_mask Δ) refl
        where
          go : (b : Bool) → zero_mask Δ ≡ b → two_room g E F ≤ room g (Parallel Δ E F)
          go true z = omega (arith, room_zero g Δ E F h z)
          go false z = omega (arith, room_masked g Δ E F h z)

    opened : (w : ℕ) (k : ℕ) → path w x g (Parallel Δ E F) k ≡ cond (done? E && done? F) (0 ∷ []) (cond (has_all x δ) (turn w 1 E F k) (masked_path x δ M k w E F))
    unfolding path codes
    opened w k = refl

    pub path_both_done : (w : ℕ) (k : ℕ) → (done? E && done? F) ≡ true → 0 ∷ [] ≡ path w x g (Parallel Δ E F) k
    path_both_done w k h = sym (opened w k ∙ ap (λ b. cond b (0 ∷ []) (cond (has_all x δ) (turn w 1 E F k) (masked_path x δ M k w E F))) h)

    other : (w : ℕ) (k : ℕ) → (done? E && done? F) ≡ false → path w x g (Parallel Δ E F) k ≡ cond (has_all x δ) (turn w 1 E F k) (masked_path x δ M k w E F)
    other w k h = opened w k ∙ ap (λ b. cond b (0 ∷ []) (cond (has_all x δ) (turn w 1 E F k) (masked_path x δ M k w E F))) h

    pub path_covered : (w : ℕ) (k : ℕ) → (done? E && done? F) ≡ false → has_all x δ ≡ true → turn w 1 E F k ≡ path w x g (Parallel Δ E F) k
    path_covered w k h z = sym (other w k h ∙ ap (λ b. cond b (turn w 1 E F k) (masked_path x δ M k w E F)) z)

    pub path_masked : (w : ℕ) (k : ℕ) → (done? E && done? F) ≡ false → has_all x δ ≡ false → masked_path x δ M k w E F ≡ path w x g (Parallel Δ E F) k
    path_masked w k h z = sym (other w k h ∙ ap (λ b. cond b (turn w 1 E F k) (masked_path x δ M k w E F)) z)

-- Below no mask every move shows.
module _ (M : List ℕ) where
  pub count_moves : (E : Term) → shown_count 0 M E ≡ move_count M E
  count_moves E = ap length (shown_all (holding M) E)

  pub count_all : (E : Term) → shown_count 0 M E ≡ length (codes (holding M) E)
  unfolding codes
  count_all E = count_moves E ∙ sym (length-map (moves (holding M) E) code_of)

  -- A side that can never move leaves the other's moves that show below x and the mask's set δ joined.
  module _ (x δ : ℕ) (E F : Term) where
    pub both_right : idle E ≡ true → length (shown_combined x δ (codes (holding M) E) (codes (holding M) F)) ≡ shown_count (bit_or x δ) M F
    unfolding outside pairs
    both_right h =
        let e = codes_idle M x E h in
        omega (
          arith,
          both_is M x E F δ,
          ap (λ l. length (outside (in_set (bit_or x δ)) l)) e,
          ap (λ l. length (pairs (paired x δ) l (codes (holding M) F))) e,
          count_codes M (bit_or x δ) F,
        )

    pub both_left : idle F ≡ true → length (shown_combined x δ (codes (holding M) E) (codes (holding M) F)) ≡ shown_count (bit_or x δ) M E
    unfolding outside
    both_left h =
        let e = codes_idle M x F h in
        omega (
          arith,
          both_is M x E F δ,
          ap (λ l. length (outside (in_set (bit_or x δ)) l)) e,
          ap (λ l. length (pairs (paired x δ) (codes (holding M) E) l)) e ∙ ap length (pairs_none_right (paired x δ) (codes (holding M) E)),
          count_codes M (bit_or x δ) E,
        )
