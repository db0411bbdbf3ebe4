-- The clauses of size, reach, breadth and moves hold (`size_clauses`, `move_clauses`, `list_clauses`; document 01, "Unfolding, size and breadth" and "Moves, in
-- order").
use Rattle.std.specs.Prelude.{◌≡◌, refl, Bool, true, false, ◌&&◌, cond, List, [], ◌∷◌, ℕ, zero, suc, ◌+◌, ◌*◌, T, eqb, length}
use Rattle.std.proofs.Common.{ap, sym, subst, arith, mul-suc, eqb→eq}
use Rattle.eb3.specs.Generic.AllLists.{All}
use Rattle.eb3.specs.Generic.Booleans.{T_and, T_fst, T_snd, cond_false}
use Rattle.eb3.specs.Generic.Lists.{filter}
use Rattle.eb3.specs.Expressions.{Cond}
use Rattle.eb3.specs.Terms.{Term, Done, Internal, Perform, Sequence, Choice, Star, Parallel, Guard, Mask, VisibleAction, in_mask, same_action, done?}
use Rattle.eb3.proofs.Laws.Terms.{same_action→eq, same_action_refl}
use Rattle.eb3.specs.Sizes.{arguments_size, size, reach, breadth, zero_mask, parallel_breadth}
use Rattle.eb3.specs.Moves.{moves}
use Rattle.eb3.specs.Clauses.{SizeClauses, MoveClauses, ListClauses}

-- ── sizes ──

arguments_are : (w n : ℕ) → arguments_size w n ≡ (1 + w) * n
unfolding arguments_size
arguments_are w zero = omega arith
arguments_are w (suc n) = let h = arguments_are w n in let e : (1 + w) * suc n ≡ (1 + w) * n + (1 + w) = mul-suc (1 + w) n in omega (arith, h, e)

is_zero : (Δ : Mask) → All (λ m. m ≡ 0) Δ → T (zero_mask Δ)
unfolding zero_mask
is_zero [] h = tt
is_zero (m ∷ Δ) h = T_and (eqb m 0) (zero_mask Δ) (subst (λ n. T (eqb n 0)) (sym h.0) tt) (is_zero Δ h.1)

zero_is : (Δ : Mask) → T (zero_mask Δ) → All (λ m. m ≡ 0) Δ
unfolding zero_mask
zero_is [] t = tt
zero_is (m ∷ Δ) t = (eqb→eq m 0 (T_fst (eqb m 0) (zero_mask Δ) t), zero_is Δ (T_snd (eqb m 0) (zero_mask Δ) t))

module _ (b : Bool) (l r : ℕ) where
  by_zero : T b → parallel_breadth b l r ≡ parallel_breadth true l r
  by_zero t = go b t
    where
      go : (b : Bool) → T b → parallel_breadth b l r ≡ parallel_breadth true l r
      go true t = refl
      go false t = absurd t

  by_other : (T b → ⊥) → parallel_breadth b l r ≡ parallel_breadth false l r
  by_other n = go b n
    where
      go : (b : Bool) → (T b → ⊥) → parallel_breadth b l r ≡ parallel_breadth false l r
      go true n = absurd (n tt)
      go false n = refl

pub size_clauses : (w : ℕ) (E F : Term) (C : Cond) (Δ : Mask) (a : VisibleAction) → SizeClauses w E F C Δ a
unfolding size reach breadth parallel_breadth
size_clauses w E F C Δ a = record {
  size_internal = refl;
  size_action = ap (λ n. 2 + n) (arguments_are w (length a.arguments));
  size_done = refl;
  size_sequence = refl;
  size_choice = refl;
  size_star = refl;
  size_parallel = refl;
  size_guard = refl;
  reach_internal = refl;
  reach_action = refl;
  reach_done = refl;
  reach_sequence = refl;
  reach_choice = refl;
  reach_star = refl;
  reach_parallel = refl;
  reach_guard = refl;
  breadth_done = refl;
  breadth_internal = refl;
  breadth_action = refl;
  breadth_sequence = refl;
  breadth_choice = refl;
  breadth_star = refl;
  breadth_guard = refl;
  breadth_parallel_zero = λ h. by_zero (zero_mask Δ) (breadth E) (breadth F) (is_zero Δ h);
  breadth_parallel = λ n. by_other (zero_mask Δ) (breadth E) (breadth F) (λ t. n (zero_is Δ t));
}

-- ── moves ──

is_done : (E : Term) → T (done? E) → E ≡ Done
unfolding done?
is_done Done t = refl
is_done Internal t = absurd t
is_done (Perform a) t = absurd t
is_done (Sequence E F) t = absurd t
is_done (Choice E F) t = absurd t
is_done (Star E) t = absurd t
is_done (Parallel Δ E F) t = absurd t
is_done (Guard C E) t = absurd t

pub move_clauses : (g : Cond → Bool) (E F : Term) (C : Cond) (Δ : Mask) (a : VisibleAction) → MoveClauses g E F C Δ a
unfolding moves done? in_mask
move_clauses g E F C Δ a = record {
  done = refl;
  internal_step = refl;
  action = refl;
  sequence_done = refl;
  sequence = λ n. cond_false _ _ (done? E) (λ t. n (is_done E t));
  choice = refl;
  star = refl;
  parallel_done = refl;
  parallel = λ n. cond_false _ _ (done? E && done? F) (λ t. n (is_done E (T_fst (done? E) (done? F) t), is_done F (T_snd (done? E) (done? F) t)));
  guard_holds = λ e. ap (λ b. cond b (moves g E) []) e;
  guard_fails = λ e. ap (λ b. cond b (moves g E) []) e;
  internal_outside = refl;
  visible_inside = refl;
  same = λ ρ σ. (same_action→eq ρ σ, λ e. subst (λ τ. T (same_action ρ τ)) e (same_action_refl ρ));
  move_is = λ ρ S. (refl, refl);
}

pub list_clauses : {X Y : Type 0} (p : X → Bool) (h : X → List Y) (x : X) (l : List X) → ListClauses p h x l
list_clauses p h x l = record {
  filter_none = refl;
  filter_kept = λ e. ap (λ b. cond b (x ∷ filter p l) (filter p l)) e;
  filter_dropped = λ e. ap (λ b. cond b (x ∷ filter p l) (filter p l)) e;
  joined_none = refl;
  joined_more = refl;
}
