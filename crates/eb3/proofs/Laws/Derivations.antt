-- Demand 2's proof: derivations correspond one to one, in order, to moves. The statement is `derivations_are_moves`, at the end;
-- Laws/Semantics puts it in the document's terms.
use Rattle.std.specs.Prelude.{◌≡◌, Bool, true, false, not, ◌&&◌, cond, List, [], ◌∷◌, ◌++◌, map, ◌⊎◌, T}
use Rattle.std.proofs.Math.Path.{refl, ap, subst_refl, path_j}
use Rattle.std.proofs.Common.{sym, ◌∙◌, subst, ⊎_elim}
use Rattle.std.proofs.Math.Logic.{inl, inr}
use Rattle.std.proofs.Math.Option.{Option, none, some}
use mathlib.Core.HLevel.{Σ_set, is_prop→PathP}
use Rattle.std.proofs.Math.Dec.{T_prop}
use Rattle.eb3.specs.Generic.Booleans.{T_and, T_fst, T_snd, T_not_and}
use Rattle.eb3.specs.Generic.Positions.{OrderIsomorphism, Front, Sum, Lex}
use Rattle.eb3.specs.Generic.PositionsAppend.{transfer_exact, none_listed, one_listed, one_more, or_else, appended}
use Rattle.eb3.specs.Generic.PositionsFilter.{mapped, filtered, matched}
use Rattle.eb3.specs.Expressions.{Cond}
use Rattle.eb3.specs.Terms.{Term, Done, Internal, Perform, Sequence, Choice, Star, Parallel, Guard, Action, internal, VisibleAction, Mask, in_mask, done?, same_action}
use Rattle.eb3.proofs.Laws.Terms.{Action_set, same_action→eq, same_action_refl}
use Rattle.eb3.specs.Moves.{Move, move, moves, sequenced, left_move, right_move, synchronised, outside_mask?, synchronise?, parallel_moves}
use Rattle.eb3.specs.Derivations.{DataState, Step, S_1, S_1', S_2, S_3, S_4_left, S_4_right, S_5, S_6, S_7, S_8, S_9_left, S_9_right, S_10, Derivation, state_after, move_of, derivation, EarlierStep, Earlier}

module _ {S : DataState} {M : S.State} where
  -- A step's new state is decided by its action.
  pub state_is : {E E' : Term} {ρ : Action} {M' : S.State} → Step S M E ρ E' M' → M' ≡ state_after S M ρ
  unfolding state_after
  state_is S_1 = refl
  state_is S_1' = refl
  state_is (S_2 d) = state_is d
  state_is (S_3 d) = state_is d
  state_is (S_4_left d) = state_is d
  state_is (S_4_right d) = state_is d
  state_is S_5 = refl
  state_is (S_6 d) = state_is d
  state_is S_7 = refl
  state_is (S_8 h d e) = state_is d
  state_is (S_9_left h d) = state_is d
  state_is (S_9_right h d) = state_is d
  state_is (S_10 h d) = state_is d

-- Done, or not.
data Ending : Term → Type 0 where
  ended : Ending Done
  going : {E : Term} → T (not (done? E)) → Ending E

ending : (E : Term) → Ending E
unfolding done?
ending Done = ended
ending Internal = going tt
ending (Perform a) = going tt
ending (Sequence E F) = going tt
ending (Choice E F) = going tt
ending (Star E) = going tt
ending (Parallel k E F) = going tt
ending (Guard C E) = going tt

module _ (S : DataState) (M : S.State) where
  abbrev Corresponds : Term → List Move → Type 0
  Corresponds E l = OrderIsomorphism (Derivation S M E) Earlier move_of l

  pub no_step : {E' : Term} {ρ : Action} {M' : S.State} → Step S M Done ρ E' M' → ⊥
  no_step d = elim d [ ]

  corresponds_done : Corresponds Done []
  corresponds_done = none_listed (λ d. no_step d.step)

  pub only_internal : {E' : Term} {ρ : Action} {M' : S.State} (d : Step S M Internal ρ E' M') → derivation S_1' ≡ derivation d
  only_internal S_1' = refl

  pub only_action : {a : VisibleAction} {E' : Term} {ρ : Action} {M' : S.State} (d : Step S M (Perform a) ρ E' M') → derivation S_1 ≡ derivation d
  only_action S_1 = refl

  internal_alone : {E' E'' : Term} {ρ σ : Action} {M' M'' : S.State} (d : Step S M Internal ρ E' M') (e : Step S M Internal σ E'' M'') → EarlierStep d e → ⊥
  unfolding EarlierStep
  internal_alone S_1' S_1' h = h

  action_alone : {a : VisibleAction} {E' E'' : Term} {ρ σ : Action} {M' M'' : S.State} (d : Step S M (Perform a) ρ E' M') (e : Step S M (Perform a) σ E'' M'') → EarlierStep d e → ⊥
  unfolding EarlierStep
  action_alone S_1 S_1 h = h

  -- Sequence
  unfoldable pub after_done : {E E' : Term} {ρ : Action} {M' : S.State} → Step S M (Sequence Done E) ρ E' M' → Derivation S M E
  after_done (S_2 d) = absurd (no_step d)
  after_done (S_3 d) = derivation d

  pub after_done_back : {E E' : Term} {ρ : Action} {M' : S.State} (d : Step S M (Sequence Done E) ρ E' M') → derivation (S_3 (after_done d).step) ≡ derivation d
  unfolding after_done
  after_done_back (S_2 d) = absurd (no_step d)
  after_done_back (S_3 d) = refl

  after_done_move : {E E' : Term} {ρ : Action} {M' : S.State} (d : Step S M (Sequence Done E) ρ E' M') → move_of (after_done d) ≡ move ρ E'
  unfolding after_done
  after_done_move (S_2 d) = absurd (no_step d)
  after_done_move (S_3 d) = refl

  after_done_order : {E : Term} {E' E'' : Term} {ρ σ : Action} {M' M'' : S.State} (d : Step S M (Sequence Done E) ρ E' M') (e : Step S M (Sequence Done E) σ E'' M'') → EarlierStep d e ≡ Earlier (after_done d) (after_done e)
  unfolding after_done EarlierStep
  after_done_order (S_2 d) e = absurd (no_step d)
  after_done_order (S_3 d) (S_2 e) = absurd (no_step e)
  after_done_order (S_3 d) (S_3 e) = refl

  corresponds_after_done : {E : Term} {xs : List Move} → Corresponds E xs → Corresponds (Sequence Done E) xs
  unfolding after_done
  corresponds_after_done o = transfer_exact o (λ d. after_done d.step) (λ d. derivation (S_3 d.step)) (λ d. after_done_back d.step) (λ d. refl) (λ d. after_done_move d.step)
      (λ d e. after_done_order d.step e.step)

  -- Choice
  abbrev pub choose : {E F E' : Term} {ρ : Action} {M' : S.State} → Step S M (Choice E F) ρ E' M' → Derivation S M E ⊎ Derivation S M F
  choose (S_4_left d) = inl (derivation d)
  choose (S_4_right d) = inr (derivation d)

  abbrev pub chosen : {E F : Term} → Derivation S M E ⊎ Derivation S M F → Derivation S M (Choice E F)
  chosen (inl d) = derivation (S_4_left d.step)
  chosen (inr d) = derivation (S_4_right d.step)

  pub chosen_choose : {E F E' : Term} {ρ : Action} {M' : S.State} (d : Step S M (Choice E F) ρ E' M') → chosen (choose d) ≡ derivation d
  chosen_choose (S_4_left d) = refl
  chosen_choose (S_4_right d) = refl

  pub choose_chosen : {E F : Term} (s : Derivation S M E ⊎ Derivation S M F) → choose (chosen s).step ≡ s
  choose_chosen (inl d) = refl
  choose_chosen (inr d) = refl

  choose_move : {E F E' : Term} {ρ : Action} {M' : S.State} (d : Step S M (Choice E F) ρ E' M') → ⊎_elim move_of move_of (choose d) ≡ move ρ E'
  choose_move (S_4_left d) = refl
  choose_move (S_4_right d) = refl

  choose_order : {E F : Term} {E' E'' : Term} {ρ σ : Action} {M' M'' : S.State} (d : Step S M (Choice E F) ρ E' M') (e : Step S M (Choice E F) σ E'' M'') → EarlierStep d e ≡ Sum Earlier Earlier (choose d) (choose e)
  unfolding EarlierStep
  choose_order (S_4_left d) (S_4_left e) = refl
  choose_order (S_4_left d) (S_4_right e) = refl
  choose_order (S_4_right d) (S_4_left e) = refl
  choose_order (S_4_right d) (S_4_right e) = refl

  corresponds_choice : {E F : Term} {xs ys : List Move} → Corresponds E xs → Corresponds F ys → Corresponds (Choice E F) (xs ++ ys)
  corresponds_choice o q = transfer_exact (appended o q) (λ d. choose d.step) chosen (λ d. chosen_choose d.step) choose_chosen (λ d. choose_move d.step)
      (λ d e. choose_order d.step e.step)

  -- Sequence, left not done
  abbrev pub first_part : {E F E' : Term} {ρ : Action} {M' : S.State} → T (not (done? E)) → Step S M (Sequence E F) ρ E' M' → Derivation S M E
  unfolding done?
  first_part h (S_2 d) = derivation d
  first_part h (S_3 d) = absurd h

  abbrev pub first_done : {E F : Term} → Derivation S M E → Derivation S M (Sequence E F)
  first_done d = derivation (S_2 d.step)

  pub first_done_part : {E F E' : Term} {ρ : Action} {M' : S.State} (h : T (not (done? E))) (d : Step S M (Sequence E F) ρ E' M') → first_done (first_part h d) ≡ derivation d
  unfolding done?
  first_done_part h (S_2 d) = refl
  first_done_part h (S_3 d) = absurd h

  first_part_move : {E F E' : Term} {ρ : Action} {M' : S.State} (h : T (not (done? E))) (d : Step S M (Sequence E F) ρ E' M') → sequenced F (move_of (first_part h d)) ≡ move ρ E'
  unfolding done?
  first_part_move h (S_2 d) = refl
  first_part_move h (S_3 d) = absurd h

  first_part_order : {E F : Term} {E' E'' : Term} {ρ σ : Action} {M' M'' : S.State} (h : T (not (done? E))) (d : Step S M (Sequence E F) ρ E' M') (e : Step S M (Sequence E F) σ E'' M'')
      → EarlierStep d e ≡ Earlier (first_part h d) (first_part h e)
  unfolding done? EarlierStep
  first_part_order h (S_2 d) (S_2 e) = refl
  first_part_order h (S_2 d) (S_3 e) = absurd h
  first_part_order h (S_3 d) e = absurd h

  corresponds_first : {E F : Term} {xs : List Move} → T (not (done? E)) → Corresponds E xs → Corresponds (Sequence E F) (map (sequenced F) xs)
  unfolding done?
  corresponds_first {E} {F} h o = transfer_exact (mapped (sequenced F) o) (λ d. first_part h d.step) first_done (λ d. first_done_part h d.step) (λ d. refl) (λ d. first_part_move h d.step)
      (λ d e. first_part_order h d.step e.step)

  -- Star
  abbrev pub round : {E E' : Term} {ρ : Action} {M' : S.State} → Step S M (Star E) ρ E' M' → Option (Derivation S M E)
  round S_5 = none
  round (S_6 d) = some (derivation d)

  abbrev pub rounded : {E : Term} → Option (Derivation S M E) → Derivation S M (Star E)
  rounded none = derivation S_5
  rounded (some d) = derivation (S_6 d.step)

  pub rounded_round : {E E' : Term} {ρ : Action} {M' : S.State} (d : Step S M (Star E) ρ E' M') → rounded (round d) ≡ derivation d
  rounded_round S_5 = refl
  rounded_round (S_6 d) = refl

  pub round_rounded : {E : Term} (o : Option (Derivation S M E)) → round (rounded o).step ≡ o
  round_rounded none = refl
  round_rounded (some d) = refl

  round_move : {E E' : Term} {ρ : Action} {M' : S.State} (d : Step S M (Star E) ρ E' M')
      → or_else (move internal Done) (λ e. sequenced (Star E) (move_of e)) (round d) ≡ move ρ E'
  round_move S_5 = refl
  round_move (S_6 d) = refl

  round_order : {E : Term} {E' E'' : Term} {ρ σ : Action} {M' M'' : S.State} (d : Step S M (Star E) ρ E' M') (e : Step S M (Star E) σ E'' M'') → EarlierStep d e ≡ Front Earlier (round d) (round e)
  unfolding EarlierStep
  round_order S_5 S_5 = refl
  round_order S_5 (S_6 e) = refl
  round_order (S_6 d) S_5 = refl
  round_order (S_6 d) (S_6 e) = refl

  corresponds_star : {E : Term} {xs : List Move} → Corresponds E xs → Corresponds (Star E) (move internal Done ∷ map (sequenced (Star E)) xs)
  corresponds_star {E} o = transfer_exact (one_more (move internal Done) (mapped (sequenced (Star E)) o)) (λ d. round d.step) rounded
      (λ d. rounded_round d.step) round_rounded (λ d. round_move d.step) (λ d e. round_order d.step e.step)

  -- Guard
  abbrev pub open_guard : {C : Cond} {E E' : Term} {ρ : Action} {M' : S.State} → Step S M (Guard C E) ρ E' M' → T (S.satisfies M C) × Derivation S M E
  open_guard (S_10 h d) = (h, derivation d)

  pub open_guard_back : {C : Cond} {E E' : Term} {ρ : Action} {M' : S.State} (h : T (S.satisfies M C)) (d : Step S M (Guard C E) ρ E' M') → derivation (S_10 h (open_guard d).1.step) ≡ derivation d
  open_guard_back {C} h (S_10 k d) = λ i. derivation (S_10 (T_prop (S.satisfies M C) h k i) d)

  open_guard_move : {C : Cond} {E E' : Term} {ρ : Action} {M' : S.State} (d : Step S M (Guard C E) ρ E' M') → move_of (open_guard d).1 ≡ move ρ E'
  open_guard_move (S_10 k d) = refl

  open_guard_order : {C : Cond} {E : Term} {E' E'' : Term} {ρ σ : Action} {M' M'' : S.State} (d : Step S M (Guard C E) ρ E' M') (e : Step S M (Guard C E) σ E'' M'') → EarlierStep d e ≡ Earlier (open_guard d).1 (open_guard e).1
  unfolding EarlierStep
  open_guard_order (S_10 h d) (S_10 k e) = refl

  corresponds_open : {C : Cond} {E : Term} {xs : List Move} → T (S.satisfies M C) → Corresponds E xs → Corresponds (Guard C E) xs
  corresponds_open h o = transfer_exact o (λ d. (open_guard d.step).1) (λ d. derivation (S_10 h d.step)) (λ d. open_guard_back h d.step) (λ d. refl) (λ d. open_guard_move d.step) (λ d e. open_guard_order d.step e.step)

  corresponds_guard : {C : Cond} {E : Term} {xs : List Move} (b : Bool) → S.satisfies M C ≡ b → Corresponds E xs → Corresponds (Guard C E) (cond b xs [])
  corresponds_guard true e o = corresponds_open (subst T (sym e) tt) o
  corresponds_guard false e o = none_listed (λ d. subst T e (open_guard d.step).0)

  -- Parallel
  pub only_end : {Δ : Mask} {E' : Term} {ρ : Action} {M' : S.State} (d : Step S M (Parallel Δ Done Done) ρ E' M') → derivation (S_7 {Δ = Δ}) ≡ derivation d
  only_end S_7 = refl
  only_end (S_8 h d e) = absurd (no_step d)
  only_end (S_9_left h d) = absurd (no_step d)
  only_end (S_9_right h d) = absurd (no_step d)

  end_alone : {Δ : Mask} {E' E'' : Term} {ρ σ : Action} {M' M'' : S.State} (d : Step S M (Parallel Δ Done Done) ρ E' M') (e : Step S M (Parallel Δ Done Done) σ E'' M'') → EarlierStep d e → ⊥
  unfolding EarlierStep
  end_alone S_7 S_7 h = h
  end_alone S_7 (S_8 k d e) h = h
  end_alone S_7 (S_9_left k d) h = h
  end_alone S_7 (S_9_right k d) h = h
  end_alone (S_8 k d e) f h = no_step d
  end_alone (S_9_left k d) f h = no_step d
  end_alone (S_9_right k d) f h = no_step d

  abbrev pub Free : Mask → Term → Type 0
  Free Δ E = (d : Derivation S M E) × T (outside_mask? Δ (move_of d))

  abbrev pub Joined : Mask → Term → Term → Type 0
  Joined Δ E F = (d : Derivation S M E) × (e : Derivation S M F) × T (synchronise? Δ (move_of d) (move_of e))

  abbrev pub Sides : Mask → Term → Term → Type 0
  Sides Δ E F = Free Δ E ⊎ (Free Δ F ⊎ Joined Δ E F)

  abbrev pub part : {Δ : Mask} {E F E' : Term} {ρ : Action} {M' : S.State} → T (not (done? E && done? F)) → Step S M (Parallel Δ E F) ρ E' M' → Sides Δ E F
  unfolding done?
  part n S_7 = absurd n
  part {Δ} {ρ = ρ} n (S_8 h d e) = inr (inr (derivation d, derivation e, T_and (in_mask Δ ρ) (same_action ρ ρ) h (same_action_refl ρ)))
  part n (S_9_left h d) = inl (derivation d, h)
  part n (S_9_right h d) = inr (inl (derivation d, h))

  -- The right derivation of a joint move, carried to the action and the state of the left one.
  abbrev pub Key : Type 0
  Key = Action × S.State

  unfoldable pub carry : {F F' : Term} {k k' : Key} → k ≡ k' → Step S M F k.0 F' k.1 → Step S M F k'.0 F' k'.1
  carry {F} {F'} p e = subst (λ (x : Key). Step S M F x.0 F' x.1) p e

  carry_refl : {F F' : Term} {k : Key} (e : Step S M F k.0 F' k.1) → carry {k = k} refl e ≡ e
  unfolding carry
  carry_refl {F} {F'} e = subst_refl (λ (x : Key). Step S M F x.0 F' x.1) e

  carried : {F F' : Term} {k k' : Key} (p : k ≡ k') (e : Step S M F k.0 F' k.1) → derivation (carry p e) ≡ derivation e
  carried {F} {F'} {k} p e = path_j (λ (k' : Key) (q : k ≡ k'). derivation (carry q e) ≡ derivation e) (λ i. derivation (carry_refl {k = k} e i)) p

  pub Key_set : IsSet Key
  Key_set = Σ_set Action_set (λ a. S.State_set)

  carry_loop : {F F' : Term} {k : Key} (p : k ≡ k) (e : Step S M F k.0 F' k.1) → carry p e ≡ e
  carry_loop {k = k} p e = (λ i. carry (Key_set k k p refl i) e) ∙ carry_refl {k = k} e

  pub agreed : (Δ : Mask) {E F : Term} (d : Derivation S M E) (e : Derivation S M F) → T (synchronise? Δ (move_of d) (move_of e)) → Path Key (e.action, e.state) (d.action, d.state)
  agreed Δ d e t =
      let p : e.action ≡ d.action = sym (same_action→eq d.action e.action (T_snd (in_mask Δ d.action) (same_action d.action e.action) t)) in
      let q : e.state ≡ d.state = state_is e.step ∙ (ap (state_after S M) p ∙ sym (state_is d.step)) in
      λ i. (p i, q i)

  abbrev pub unpart : {Δ : Mask} {E F : Term} → Sides Δ E F → Derivation S M (Parallel Δ E F)
  unpart (inl s) = derivation (S_9_left s.1 s.0.step)
  unpart (inr (inl s)) = derivation (S_9_right s.1 s.0.step)
  unpart {Δ} (inr (inr s)) = derivation (S_8 (T_fst (in_mask Δ s.0.action) (same_action s.0.action s.1.action) s.2) s.0.step (carry (agreed Δ s.0 s.1 s.2) s.1.step))

  rejoin : (Δ : Mask) {E F E' F' : Term} {ρ : Action} {M' : S.State} (h : T (in_mask Δ ρ)) (d : Step S M E ρ E' M') (e : Step S M F ρ F' M') (t : T (in_mask Δ ρ && same_action ρ ρ))
      → Path (Derivation S M (Parallel Δ E F)) (derivation (S_8 (T_fst (in_mask Δ ρ) (same_action ρ ρ) t) d (carry (agreed Δ (derivation d) (derivation e) t) e))) (derivation (S_8 h d e))
  rejoin Δ {ρ = ρ} {M' = M'} h d e t = λ i. derivation (S_8 (T_prop (in_mask Δ ρ) (T_fst (in_mask Δ ρ) (same_action ρ ρ) t) h i) d (carry_loop {k = (ρ, M')} (agreed Δ (derivation d) (derivation e) t) e i))

  rejoined : (Δ : Mask) {E F : Term} (d : Derivation S M E) (e : Derivation S M F) (t : T (synchronise? Δ (move_of d) (move_of e)))
      (u : T (in_mask Δ d.action && same_action d.action d.action))
      → Path (Joined Δ E F) (d, derivation (carry (agreed Δ d e t) e.step), u) (d, e, t)
  rejoined Δ d e t u =
      let c : derivation (carry (agreed Δ d e t) e.step) ≡ e = carried (agreed Δ d e t) e.step in
      λ i. (d, c i, is_prop→PathP (λ j. T (synchronise? Δ (move_of d) (move_of (c j)))) (λ j. T_prop (synchronise? Δ (move_of d) (move_of (c j)))) u t i)

  pub unpart_part : {Δ : Mask} {E F E' : Term} {ρ : Action} {M' : S.State} (n : T (not (done? E && done? F))) (d : Step S M (Parallel Δ E F) ρ E' M') → unpart {Δ = Δ} (part n d) ≡ derivation d
  unfolding done?
  unpart_part n S_7 = absurd n
  unpart_part n (S_8 {Δ = Δ} {ρ = ρ} h d e) = rejoin Δ h d e (T_and (in_mask Δ ρ) (same_action ρ ρ) h (same_action_refl ρ))
  unpart_part n (S_9_left h d) = refl
  unpart_part n (S_9_right h d) = refl

  pub part_unpart : (Δ : Mask) {E F : Term} (n : T (not (done? E && done? F))) (s : Sides Δ E F) → part n (unpart {Δ = Δ} s).step ≡ s
  unfolding done?
  part_unpart Δ n (inl s) = refl
  part_unpart Δ n (inr (inl s)) = refl
  part_unpart Δ n (inr (inr s)) = ap {B = Sides Δ _ _} (λ x. inr (inr x)) (rejoined Δ s.0 s.1 s.2 (T_and (in_mask Δ s.0.action) (same_action s.0.action s.0.action) (T_fst (in_mask Δ s.0.action) (same_action s.0.action s.1.action) s.2) (same_action_refl s.0.action)))

  abbrev side_move : {E F : Term} (Δ : Mask) → Sides Δ E F → Move
  side_move {E} {F} Δ = ⊎_elim (λ s. left_move Δ F (move_of s.0)) (⊎_elim (λ s. right_move Δ E (move_of s.0)) (λ s. synchronised Δ (move_of s.0) (move_of s.1)))

  part_move : {Δ : Mask} {E F E' : Term} {ρ : Action} {M' : S.State} (n : T (not (done? E && done? F))) (d : Step S M (Parallel Δ E F) ρ E' M') → side_move Δ (part n d) ≡ move ρ E'
  unfolding done?
  part_move n S_7 = absurd n
  part_move n (S_8 h d e) = refl
  part_move n (S_9_left h d) = refl
  part_move n (S_9_right h d) = refl

  abbrev Sides_order : {E F : Term} (Δ : Mask) → Sides Δ E F → Sides Δ E F → Type 0
  Sides_order Δ = Sum (λ s s'. Earlier s.0 s'.0) (Sum (λ s s'. Earlier s.0 s'.0) (λ s s'. Lex Earlier Earlier s.0 s.1 s'.0 s'.1))

  part_order : {Δ : Mask} {E F : Term} {E' E'' : Term} {ρ σ : Action} {M' M'' : S.State} (n : T (not (done? E && done? F))) (d : Step S M (Parallel Δ E F) ρ E' M') (e : Step S M (Parallel Δ E F) σ E'' M'')
      → EarlierStep d e ≡ Sides_order Δ (part n d) (part n e)
  unfolding done? EarlierStep
  part_order n S_7 e = absurd n
  part_order n (S_8 h d e) S_7 = absurd n
  part_order n (S_8 h d e) (S_8 h' d' e') = refl
  part_order n (S_8 h d e) (S_9_left h' d') = refl
  part_order n (S_8 h d e) (S_9_right h' d') = refl
  part_order n (S_9_left h d) S_7 = absurd n
  part_order n (S_9_left h d) (S_8 h' d' e') = refl
  part_order n (S_9_left h d) (S_9_left h' d') = refl
  part_order n (S_9_left h d) (S_9_right h' d') = refl
  part_order n (S_9_right h d) S_7 = absurd n
  part_order n (S_9_right h d) (S_8 h' d' e') = refl
  part_order n (S_9_right h d) (S_9_left h' d') = refl
  part_order n (S_9_right h d) (S_9_right h' d') = refl

  corresponds_sides : {Δ : Mask} {E F : Term} {xs ys : List Move} → T (not (done? E && done? F)) → Corresponds E xs → Corresponds F ys → Corresponds (Parallel Δ E F) (parallel_moves Δ E F xs ys)
  unfolding done?
  corresponds_sides {Δ} {E} {F} {xs} {ys} n o q =
      transfer_exact (appended (mapped (left_move Δ F) (filtered (outside_mask? Δ) o)) (appended (mapped (right_move Δ E) (filtered (outside_mask? Δ) q)) (matched (synchronise? Δ) (synchronised Δ) ys o q)))
      (λ d. part n d.step) unpart (λ d. unpart_part n d.step) (part_unpart Δ n) (λ d. part_move n d.step) (λ d e. part_order n d.step e.step)

  -- The two cases of a test.
  passed : {E : Term} {ys : List Move} (xs : List Move) (b : Bool) → T (not b) → Corresponds E ys → Corresponds E (cond b xs ys)
  passed xs true h o = absurd h
  passed xs false h o = o

  corresponds_sequence : {E F : Term} {xs ys : List Move} → Ending E → Corresponds E xs → Corresponds F ys → Corresponds (Sequence E F) (cond (done? E) ys (map (sequenced F) xs))
  unfolding done?
  corresponds_sequence ended o q = corresponds_after_done q
  corresponds_sequence {ys = ys} (going {E = E} h) o q = passed ys (done? E) h (corresponds_first h o)

  corresponds_parallel : {Δ : Mask} {E F : Term} {xs ys : List Move} → Ending E → Ending F → Corresponds E xs → Corresponds F ys
      → Corresponds (Parallel Δ E F) (cond (done? E && done? F) (move internal Done ∷ []) (parallel_moves Δ E F xs ys))
  unfolding done?
  corresponds_parallel ended ended o q = one_listed (derivation S_7) (λ d. only_end d.step) (λ d e. end_alone d.step e.step)
  corresponds_parallel ended (going {E = F} h) o q = passed (move internal Done ∷ []) (done? F) h (corresponds_sides h o q)
  corresponds_parallel {F = F} (going {E = E} h) f o q =
      let n = T_not_and (done? E) (done? F) h in
      passed (move internal Done ∷ []) (done? E && done? F) n (corresponds_sides n o q)

  -- Demand 2.
  pub derivations_are_moves : (E : Term) → OrderIsomorphism (Derivation S M E) Earlier move_of (moves (S.satisfies M) E)
  unfolding moves
  derivations_are_moves Done = corresponds_done
  derivations_are_moves Internal = one_listed (derivation S_1') (λ d. only_internal d.step) (λ d e. internal_alone d.step e.step)
  derivations_are_moves (Perform a) = one_listed (derivation S_1) (λ d. only_action d.step) (λ d e. action_alone d.step e.step)
  derivations_are_moves (Sequence E F) = corresponds_sequence (ending E) (derivations_are_moves E) (derivations_are_moves F)
  derivations_are_moves (Choice E F) = corresponds_choice (derivations_are_moves E) (derivations_are_moves F)
  derivations_are_moves (Star E) = corresponds_star (derivations_are_moves E)
  derivations_are_moves (Parallel Δ E F) = corresponds_parallel (ending E) (ending F) (derivations_are_moves E) (derivations_are_moves F)
  derivations_are_moves (Guard C E) = corresponds_guard (S.satisfies M C) refl (derivations_are_moves E)
