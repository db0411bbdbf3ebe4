-- Laws of the numbers of a term's moves outside a set of labels, and of the room that listing them takes, by the term's form.
-- Document 01, "Moves, in order".
use Rattle.std.specs.Prelude.{◌≡◌, Bool, true, false, ◌&&◌, ℕ, ◌+◌, ◌*◌, ◌%◌, ◌≤◌, ◌<◌, T, take, get_or}
use Rattle.std.proofs.Math.Path.{refl, sym, ap}
use Rattle.std.proofs.Common.{◌∙◌, subst, arith, eq-eqb, get_or-take}
use mathlib.Core.List.{List, [], ◌∷◌, ◌++◌}
use Rattle.std.specs.Int.Bits.{bit_or, or_zero_r}
use Rattle.std.proofs.Math.ListN.{length}
use Rattle.eb3.specs.Expressions.{Cond}
use Rattle.eb3.specs.Scopes.{Scope}
use Rattle.eb3.specs.Terms.{Term, Done, Internal, Perform, Sequence, Choice, Star, Parallel, Guard, VisibleAction, visible, Mask, done?}
use Rattle.eb3.specs.Sizes.{breadth, zero_mask}
use Rattle.actions.specs.Codes.{action_code}
use Rattle.actions.specs.Sets.{in_set, mask_word, mask_set}
use Rattle.actions.specs.Laws.Sets.{in_mask_set, in_empty, in_either, within_set}
use Rattle.listing.specs.Listing.{Fits, codes, room}
use Rattle.listing.specs.Combining.{outside, combined}
use Rattle.listing.specs.Laws.Codes.{codes_done, codes_internal, codes_perform, codes_after_done, codes_sequence, codes_choice, codes_star, codes_both_done, codes_parallel, codes_guard, codes_shut, zero_word}
use Rattle.listing.specs.Rooms.{two_room, masked_room}
use Rattle.listing.specs.Laws.Rooms.{room_zero, room_masked, codes_below_breadth}
use Rattle.listing.specs.Laws.Outside.{number_shown, outside_one, outside_append, outside_below, outside_none, outside_either, combined_within, combined_shown, beside_none_left, beside_none_right}
use Rattle.listing.specs.Shown.{shown}

-- ── sets ──

-- Only the first four words count.
pub mask_set_front : (Δ : Mask) → mask_set (take 4 Δ) ≡ mask_set Δ
unfolding mask_set mask_word
mask_set_front Δ =
    let w : (i : ℕ) → i < 4 → get_or (take 4 Δ) i 0 % 65536 ≡ get_or Δ i 0 % 65536 = λ i h. ap (λ n. n % 65536) (get_or-take 4 Δ i 0 h) in
    λ i. ((w 3 (omega arith) i * 65536 + w 2 (omega arith) i) * 65536 + w 1 (omega arith) i) * 65536 + w 0 (omega arith) i

-- A mask that is zero adds no label.
pub zero_within : (x : ℕ) (Δ : Mask) → zero_mask Δ ≡ true → bit_or x (mask_set Δ) ≡ x
unfolding mask_set mask_word
zero_within x Δ z =
    let w : (i : ℕ) → get_or Δ i 0 % 65536 ≡ 0 = λ i. ap (λ n. n % 65536) (zero_word Δ (subst T (sym z) tt) i) in
    ap (bit_or x) (λ i. ((w 3 i * 65536 + w 2 i) * 65536 + w 1 i) * 65536 + w 0 i) ∙ or_zero_r x

-- ── each form ──

pub shown_all : (g : Cond → Bool) (E : Term) → shown 0 g E ≡ codes g E
unfolding shown
shown_all g E = outside_none (in_set 0) in_empty (codes g E)

module _ (x : ℕ) (g : Cond → Bool) where
  pub shown_below : (E : Term) → length (shown x g E) ≤ length (codes g E)
  unfolding shown
  shown_below E = outside_below (in_set x) (codes g E)

  internal_shown : in_set x 0 ≡ false
  unfolding in_set
  internal_shown = refl

  pub shown_done : shown x g Done ≡ []
  unfolding shown outside
  shown_done = ap (outside (in_set x)) (codes_done g)

  one_internal : outside (in_set x) (0 ∷ []) ≡ 0 ∷ []
  unfolding outside
  one_internal = number_shown (in_set x) 0 [] internal_shown

  pub shown_internal : shown x g Internal ≡ 0 ∷ []
  unfolding shown
  shown_internal = ap (outside (in_set x)) (codes_internal g) ∙ one_internal

  pub shown_perform : (a : VisibleAction) → in_set x (action_code (visible a)) ≡ false → shown x g (Perform a) ≡ action_code (visible a) ∷ []
  unfolding shown outside
  shown_perform a h = ap (outside (in_set x)) (codes_perform g a) ∙ number_shown (in_set x) (action_code (visible a)) [] h

  pub shown_hidden : (a : VisibleAction) → in_set x (action_code (visible a)) ≡ true → shown x g (Perform a) ≡ []
  unfolding shown
  shown_hidden a h = ap (outside (in_set x)) (codes_perform g a) ∙ outside_one (in_set x) (action_code (visible a)) h

  pub shown_after_done : (E F : Term) → done? E ≡ true → shown x g (Sequence E F) ≡ shown x g F
  unfolding shown
  shown_after_done E F h = ap (outside (in_set x)) (codes_after_done g E F h)

  pub shown_sequence : (E F : Term) → done? E ≡ false → shown x g (Sequence E F) ≡ shown x g E
  unfolding shown
  shown_sequence E F h = ap (outside (in_set x)) (codes_sequence g E F h)

  pub shown_choice : (E F : Term) → shown x g (Choice E F) ≡ shown x g E ++ shown x g F
  unfolding shown
  shown_choice E F = ap (outside (in_set x)) (codes_choice g E F) ∙ outside_append (in_set x) (codes g E) (codes g F)

  pub shown_star : (E : Term) → shown x g (Star E) ≡ 0 ∷ shown x g E
  unfolding shown
  shown_star E = ap (outside (in_set x)) (codes_star g E) ∙ number_shown (in_set x) 0 (codes g E) internal_shown

  pub shown_both_done : (Δ : Mask) (E F : Term) → (done? E && done? F) ≡ true → shown x g (Parallel Δ E F) ≡ 0 ∷ []
  unfolding shown
  shown_both_done Δ E F h = ap (outside (in_set x)) (codes_both_done g Δ E F h) ∙ one_internal

  pub shown_guard : (C : Cond) (E : Term) → g C ≡ true → shown x g (Guard C E) ≡ shown x g E
  unfolding shown
  shown_guard C E h = ap (outside (in_set x)) (codes_guard g C E h)

  pub shown_shut : (C : Cond) (E : Term) → g C ≡ false → shown x g (Guard C E) ≡ []
  unfolding shown outside
  shown_shut C E h = ap (outside (in_set x)) (codes_shut g C E h)

  -- ── a parallel ──

  pub shown_parallel : (P : Scope) (Δ : Mask) (E F : Term) → (done? E && done? F) ≡ false → Fits P E → Fits P F
      → shown x g (Parallel Δ E F) ≡ combined (in_set (mask_set Δ)) (shown x g E) (shown x g F)
  unfolding shown
  shown_parallel P Δ E F h e f =
      ap (outside (in_set x)) (codes_parallel g P Δ E F h e f ∙ (λ i. combined (λ n. sym (in_mask_set Δ n) i) (codes g E) (codes g F)))
      ∙ combined_shown (in_set x) (in_set (mask_set Δ)) (codes g E) (codes g F)

  module _ (δ : ℕ) (E F : Term) where
    -- no label of δ is shown
    pub combined_hidden : bit_or x δ ≡ x → combined (in_set δ) (shown x g E) (shown x g F) ≡ shown x g E ++ shown x g F
    unfolding shown
    combined_hidden h = combined_within (in_set x) (in_set δ) (λ n. within_set x δ n (eq-eqb (bit_or x δ) x h)) (codes g E) (codes g F)

    never : (X : Term) → breadth X ≡ 0 → shown x g X ≡ []
    unfolding shown outside
    never X h = ap (outside (in_set x)) (no_codes (codes g X) (omega (arith, codes_below_breadth g X, h)))
      where
        no_codes : (l : List ℕ) → length l ≤ 0 → l ≡ []
        no_codes [] k = refl
        no_codes (y ∷ l) k = absurd (omega (arith, k))

    joined : (X : Term) → outside (in_set δ) (shown x g X) ≡ shown (bit_or x δ) g X
    unfolding shown
    joined X = outside_either (in_set x) (in_set δ) (in_set (bit_or x δ)) (in_either x δ) (codes g X)

    pub beside_idle_left : breadth E ≡ 0 → combined (in_set δ) (shown x g E) (shown x g F) ≡ shown (bit_or x δ) g F
    beside_idle_left h = ap (λ l. combined (in_set δ) l (shown x g F)) (never E h) ∙ beside_none_left (in_set δ) (shown x g F) ∙ joined F

    pub beside_idle_right : breadth F ≡ 0 → combined (in_set δ) (shown x g E) (shown x g F) ≡ shown (bit_or x δ) g E
    beside_idle_right h = ap (combined (in_set δ) (shown x g E)) (never F h) ∙ beside_none_right (in_set δ) (shown x g E) ∙ joined E

-- ── room ──

module _ (x : ℕ) (g : Cond → Bool) (P : Scope) (Δ : Mask) (E F : Term) (h : (done? E && done? F) ≡ false) (e : Fits P E) (f : Fits P F) where
  -- a parallel takes at least what its sides take one after the other
  pub room_sides : two_room g E F ≤ room g (Parallel Δ E F)
  room_sides = go (zero_mask Δ) refl
    where
      go : (b : Bool) → zero_mask Δ ≡ b → two_room g E F ≤ room g (Parallel Δ E F)
      go true z = omega (arith, room_zero g Δ E F h z)
      go false z = omega (arith, room_masked g Δ E F h z)

  pub room_combined : (bit_or x (mask_set Δ) ≡ x → ⊥) → masked_room g E F (length (combined (in_set (mask_set Δ)) (shown x g E) (shown x g F))) ≤ room g (Parallel Δ E F)
  room_combined n = go (zero_mask Δ) refl
    where
      go : (b : Bool) → zero_mask Δ ≡ b → masked_room g E F (length (combined (in_set (mask_set Δ)) (shown x g E) (shown x g F))) ≤ room g (Parallel Δ E F)
      go true z = absurd (n (zero_within x Δ z))
      go false z = omega (arith, room_masked g Δ E F h z, ap length (shown_parallel x g P Δ E F h e f), shown_below x g (Parallel Δ E F))
