-- Laws of the numbers of a term's moves, by the term's form: those of a parallel are made of its sides' (Combining).
-- Document 01, "Moves, in order".
use Rattle.std.specs.Prelude.{◌≡◌, Bool, not, ◌&&◌, ℕ, zero, suc, ◌/◌, ◌%◌, ◌^◌, T, eqb, get_or}
use Rattle.std.proofs.Math.Path.{refl, ap}
use Rattle.std.proofs.Common.{sym, ◌∙◌, subst, eqb→eq}
use Rattle.std.proofs.Math.Bool.{true, false, cond}
use mathlib.Core.List.{List, [], ◌∷◌, ◌++◌, map}
use Rattle.std.proofs.Math.Nat.{zero-div}
use Rattle.std.proofs.Math.Dec.{eqb_refl}
use Rattle.eb3.specs.Generic.Booleans.{T_fst, T_snd}
use Rattle.eb3.specs.Generic.Lists.{filter, concat_map}
use Rattle.eb3.specs.Generic.AllLists.{All}
use Rattle.eb3.specs.Expressions.{Cond}
use Rattle.eb3.specs.Scopes.{Scope}
use Rattle.eb3.specs.Terms.{Term, Done, Internal, Perform, Sequence, Choice, Star, Parallel, Guard, VisibleAction, internal, visible, Mask, bit, in_mask, same_action, done?}
use Rattle.eb3.specs.Moves.{Move, move, moves, sequenced, left_move, right_move, synchronised, outside_mask?, synchronise?, parallel_moves}
use Rattle.eb3.specs.Sizes.{zero_mask}
use Rattle.actions.specs.Codes.{action_code, Small, label_in, masked_code}
use Rattle.actions.specs.Laws.Codes.{masked_is, same_code, same_test}
use Rattle.listing.specs.Listing.{Fits, code_of, codes}
use Rattle.listing.specs.Combining.{outside, equal_to, pairs, combined}
use Rattle.listing.specs.Laws.Outside.{combined_none}

abbrev pub Smalls : List Move → Type 0
Smalls l = All (λ x. Small x.action) l

-- ── lists of moves ──

map_append : (l r : List Move) → map code_of (l ++ r) ≡ map code_of l ++ map code_of r
map_append [] r = refl
map_append (x ∷ l) r = ap (λ t. code_of x ∷ t) (map_append l r)

-- a move that is carried on keeps its action
map_kept : (f : Move → Move) → ((x : Move) → (f x).action ≡ x.action) → (l : List Move) → map code_of (map f l) ≡ map code_of l
map_kept f h [] = refl
map_kept f h (x ∷ l) = λ i. action_code (h x i) ∷ map_kept f h l i

smalls_append : (l r : List Move) → Smalls l → Smalls r → Smalls (l ++ r)
smalls_append [] r h k = k
smalls_append (x ∷ l) r h k = (h.0, smalls_append l r h.1 k)

smalls_map : (f : Move → Move) → ((x : Move) → (f x).action ≡ x.action) → (l : List Move) → Smalls l → Smalls (map f l)
smalls_map f e [] h = tt
smalls_map f e (x ∷ l) h = (subst Small (sym (e x)) h.0, smalls_map f e l h.1)

smalls_cond : (b : Bool) (l r : List Move) → Smalls l → Smalls r → Smalls (cond b l r)
smalls_cond true l r h k = h
smalls_cond false l r h k = k

smalls_filter : (p : Move → Bool) (l : List Move) → Smalls l → Smalls (filter p l)
smalls_filter p [] h = tt
smalls_filter p (x ∷ l) h = smalls_cond (p x) (x ∷ filter p l) (filter p l) (h.0, smalls_filter p l h.1) (smalls_filter p l h.1)

smalls_row : (Δ : Mask) (x : Move) → Small x.action → (l : List Move) → Smalls (map (synchronised Δ x) l)
smalls_row Δ x s [] = tt
smalls_row Δ x s (y ∷ l) = (s, smalls_row Δ x s l)

smalls_rows : (Δ : Mask) (ys l : List Move) → Smalls l → Smalls (concat_map (λ x. map (synchronised Δ x) (filter (synchronise? Δ x) ys)) l)
smalls_rows Δ ys [] h = tt
smalls_rows Δ ys (x ∷ l) h = smalls_append (map (synchronised Δ x) (filter (synchronise? Δ x) ys)) _ (smalls_row Δ x h.0 (filter (synchronise? Δ x) ys)) (smalls_rows Δ ys l h.1)

-- ── a parallel ──

pub turned : (m n : ℕ) → eqb m n ≡ eqb n m
turned m n = same_test (eqb m n) (eqb n m) (λ t. subst (λ k. T (eqb k m)) (eqb→eq m n t) (eqb_refl m)) (λ t. subst (λ k. T (eqb k n)) (eqb→eq n m t) (eqb_refl n))

chosen : (b : Bool) (x : Move) (l : List Move) (m : List ℕ) → map code_of l ≡ m → map code_of (cond (not b) (x ∷ l) l) ≡ cond b m (code_of x ∷ m)
chosen true x l m e = e
chosen false x l m e = ap (λ t. code_of x ∷ t) e

module _ (Δ : Mask) where
  number_outside : (l : List Move) → Smalls l → map code_of (filter (outside_mask? Δ) l) ≡ outside (masked_code Δ) (map code_of l)
  unfolding outside
  number_outside [] h = refl
  number_outside (x ∷ l) h =
      chosen (in_mask Δ x.action) x (filter (outside_mask? Δ) l) (outside (masked_code Δ) (map code_of l)) (number_outside l h.1)
      ∙ ap (λ b. cond b (outside (masked_code Δ) (map code_of l)) (code_of x ∷ outside (masked_code Δ) (map code_of l))) (sym (masked_is Δ x.action h.0))

  module _ (x : Move) (s : Small x.action) where
    same_number : (y : Move) → Small y.action → same_action x.action y.action ≡ eqb (code_of y) (code_of x)
    same_number y h = same_code x.action y.action s h ∙ turned (code_of x) (code_of y)

    picked : (b : Bool) (y : Move) (l : List Move) (m : List ℕ) → map code_of (map (synchronised Δ x) l) ≡ m
        → map code_of (map (synchronised Δ x) (cond b (y ∷ l) l)) ≡ cond b (code_of x ∷ m) m
    picked true y l m e = ap (λ t. code_of x ∷ t) e
    picked false y l m e = e

    number_row : (b : Bool) (l : List Move) → Smalls l → map code_of (map (synchronised Δ x) (filter (λ y. b && same_action x.action y.action) l)) ≡ cond b (equal_to (code_of x) (map code_of l)) []
    unfolding equal_to
    number_row true [] h = refl
    number_row false [] h = refl
    number_row true (y ∷ l) h =
        picked (same_action x.action y.action) y _ (equal_to (code_of x) (map code_of l)) (number_row true l h.1)
        ∙ ap (λ b. cond b (code_of x ∷ equal_to (code_of x) (map code_of l)) (equal_to (code_of x) (map code_of l))) (same_number y h.0)
    number_row false (y ∷ l) h = number_row false l h.1

  number_pairs : (l ys : List Move) → Smalls l → Smalls ys
      → map code_of (concat_map (λ x. map (synchronised Δ x) (filter (synchronise? Δ x) ys)) l) ≡ pairs (masked_code Δ) (map code_of l) (map code_of ys)
  unfolding pairs
  number_pairs [] ys h k = refl
  number_pairs (x ∷ l) ys h k =
      map_append (map (synchronised Δ x) (filter (synchronise? Δ x) ys)) (concat_map (λ x. map (synchronised Δ x) (filter (synchronise? Δ x) ys)) l)
      ∙ ap (λ t. t ++ map code_of (concat_map (λ x. map (synchronised Δ x) (filter (synchronise? Δ x) ys)) l))
      (number_row x h.0 (in_mask Δ x.action) ys k ∙ ap (λ b. cond b (equal_to (code_of x) (map code_of ys)) []) (sym (masked_is Δ x.action h.0)))
      ∙ ap (λ t. cond (masked_code Δ (code_of x)) (equal_to (code_of x) (map code_of ys)) [] ++ t) (number_pairs l ys h.1 k)

  number_parallel : (E F : Term) (l ys : List Move) → Smalls l → Smalls ys → map code_of (parallel_moves Δ E F l ys) ≡ combined (masked_code Δ) (map code_of l) (map code_of ys)
  unfolding combined
  number_parallel E F l ys h k =
      let a : List Move = map (left_move Δ F) (filter (outside_mask? Δ) l) in
      let b : List Move = map (right_move Δ E) (filter (outside_mask? Δ) ys) in
      let c : List Move = concat_map (λ x. map (synchronised Δ x) (filter (synchronise? Δ x) ys)) l in
      let u : map code_of a ≡ outside (masked_code Δ) (map code_of l) = map_kept (left_move Δ F) (λ x. refl) (filter (outside_mask? Δ) l) ∙ number_outside l h in
      let v : map code_of b ≡ outside (masked_code Δ) (map code_of ys) = map_kept (right_move Δ E) (λ x. refl) (filter (outside_mask? Δ) ys) ∙ number_outside ys k in
      let e : map code_of (a ++ (b ++ c)) ≡ map code_of a ++ (map code_of b ++ map code_of c) = map_append a (b ++ c) ∙ ap (λ t. map code_of a ++ t) (map_append b c) in
      e ∙ (λ i. u i ++ (v i ++ number_pairs l ys h k i))

-- ── each form ──

module _ (g : Cond → Bool) where
  pub fits_small : (P : Scope) (E : Term) → Fits P E → Smalls (moves g E)
  unfolding moves
  fits_small P Done h = tt
  fits_small P Internal h = (tt, tt)
  fits_small P (Perform a) h = (h, tt)
  fits_small P (Sequence E F) h = smalls_cond (done? E) (moves g F) (map (sequenced F) (moves g E)) (fits_small P F h.1) (smalls_map (sequenced F) (λ x. refl) (moves g E) (fits_small P E h.0))
  fits_small P (Choice E F) h = smalls_append (moves g E) (moves g F) (fits_small P E h.0) (fits_small P F h.1)
  fits_small P (Star E) h = (tt, smalls_map (sequenced (Star E)) (λ x. refl) (moves g E) (fits_small P E h))
  fits_small P (Parallel Δ E F) h =
      let l = fits_small P E h.1 in
      let r = fits_small P F h.2 in
      smalls_cond (done? E && done? F) _ (parallel_moves Δ E F (moves g E) (moves g F)) (tt, tt)
      (smalls_append (map (left_move Δ F) (filter (outside_mask? Δ) (moves g E))) _ (smalls_map (left_move Δ F) (λ x. refl) (filter (outside_mask? Δ) (moves g E)) (smalls_filter (outside_mask? Δ) (moves g E) l))
      (smalls_append (map (right_move Δ E) (filter (outside_mask? Δ) (moves g F))) _ (smalls_map (right_move Δ E) (λ x. refl) (filter (outside_mask? Δ) (moves g F)) (smalls_filter (outside_mask? Δ) (moves g F) r))
      (smalls_rows Δ (moves g F) (moves g E) l)))
  fits_small P (Guard C E) h = smalls_cond (g C) (moves g E) [] (fits_small P E h.1) tt

  pub codes_done : codes g Done ≡ []
  unfolding codes moves
  codes_done = refl

  pub codes_internal : codes g Internal ≡ 0 ∷ []
  unfolding codes moves action_code
  codes_internal = refl

  pub codes_perform : (a : VisibleAction) → codes g (Perform a) ≡ action_code (visible a) ∷ []
  unfolding codes moves
  codes_perform a = refl

  pub codes_after_done : (E F : Term) → done? E ≡ true → codes g (Sequence E F) ≡ codes g F
  unfolding codes moves
  codes_after_done E F h = ap (λ b. map code_of (cond b (moves g F) (map (sequenced F) (moves g E)))) h

  pub codes_sequence : (E F : Term) → done? E ≡ false → codes g (Sequence E F) ≡ codes g E
  unfolding codes moves
  codes_sequence E F h = ap (λ b. map code_of (cond b (moves g F) (map (sequenced F) (moves g E)))) h ∙ map_kept (sequenced F) (λ x. refl) (moves g E)

  pub codes_choice : (E F : Term) → codes g (Choice E F) ≡ codes g E ++ codes g F
  unfolding codes moves
  codes_choice E F = map_append (moves g E) (moves g F)

  pub codes_star : (E : Term) → codes g (Star E) ≡ 0 ∷ codes g E
  unfolding codes moves action_code
  codes_star E = ap (λ t. 0 ∷ t) (map_kept (sequenced (Star E)) (λ x. refl) (moves g E))

  pub codes_both_done : (Δ : Mask) (E F : Term) → (done? E && done? F) ≡ true → codes g (Parallel Δ E F) ≡ 0 ∷ []
  unfolding codes moves action_code
  codes_both_done Δ E F h = ap (λ b. map code_of (cond b (move internal Done ∷ []) (parallel_moves Δ E F (moves g E) (moves g F)))) h

  pub codes_parallel : (P : Scope) (Δ : Mask) (E F : Term) → (done? E && done? F) ≡ false → Fits P E → Fits P F → codes g (Parallel Δ E F) ≡ combined (masked_code Δ) (codes g E) (codes g F)
  unfolding codes moves
  codes_parallel P Δ E F h e f =
      ap (λ b. map code_of (cond b (move internal Done ∷ []) (parallel_moves Δ E F (moves g E) (moves g F)))) h
      ∙ number_parallel Δ E F (moves g E) (moves g F) (fits_small P E e) (fits_small P F f)

  pub codes_guard : (C : Cond) (E : Term) → g C ≡ true → codes g (Guard C E) ≡ codes g E
  unfolding codes moves
  codes_guard C E h = ap (λ b. map code_of (cond b (moves g E) [])) h

  pub codes_shut : (C : Cond) (E : Term) → g C ≡ false → codes g (Guard C E) ≡ []
  unfolding codes moves
  codes_shut C E h = ap (λ b. map code_of (cond b (moves g E) [])) h

-- ── a mask that is zero: no action is in it ──

pub zero_word : (Δ : Mask) → T (zero_mask Δ) → (i : ℕ) → get_or Δ i 0 ≡ 0
unfolding zero_mask
zero_word [] t i = refl
zero_word (w ∷ Δ) t zero = eqb→eq w 0 (T_fst (eqb w 0) (zero_mask Δ) t)
zero_word (w ∷ Δ) t (suc i) = zero_word Δ (T_snd (eqb w 0) (zero_mask Δ) t) i

none_masked : (Δ : Mask) → zero_mask Δ ≡ true → (n : ℕ) → masked_code Δ n ≡ false
unfolding masked_code bit
none_masked Δ z n =
    let e : get_or Δ (label_in n / 16) 0 ≡ 0 = zero_word Δ (subst T (sym z) tt) (label_in n / 16) in
    let f : eqb (get_or Δ (label_in n / 16) 0 / 2 ^ (label_in n % 16) % 2) 1 ≡ false = ap (λ w. eqb (w / 2 ^ (label_in n % 16) % 2) 1) e ∙ ap (λ w. eqb (w % 2) 1) (zero-div (2 ^ (label_in n % 16))) in
    go (eqb n 0) _ f
  where
    go : (b c : Bool) → c ≡ false → cond b false c ≡ false
    go true c h = refl
    go false c h = h

pub combined_zero : (Δ : Mask) (l ys : List ℕ) → zero_mask Δ ≡ true → combined (masked_code Δ) l ys ≡ l ++ ys
combined_zero Δ l ys z = combined_none (masked_code Δ) (none_masked Δ z) l ys
