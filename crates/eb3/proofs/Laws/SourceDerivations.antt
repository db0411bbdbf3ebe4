-- Derivations of a source term, rule 11 included, are one to one with those of its unfolding, with the same action and new state and with
-- successors that unfold to its successors (`source_derivations`). So a call adds no move and loses none.
use Rattle.std.specs.Prelude.{◌≡◌, true, false, ◌&&◌, ◌⊎◌, ℕ, zero, suc, ◌≤◌, ◌<◌}
use Rattle.std.proofs.Math.Path.{refl, ap, subst, subst_refl, path_j}
use Rattle.std.proofs.Common.{sym, ◌∙◌, arith}
use Rattle.std.proofs.Math.Bool.{Bool, not}
use Rattle.std.proofs.Math.Logic.{inl, inr}
use Rattle.std.proofs.Math.Option.{Option, none, some}
use mathlib.Core.HLevel.{is_prop→PathP}
use Rattle.std.proofs.Math.Bridge.{le_prop}
use Rattle.std.proofs.Math.Dec.{T, T_prop}
use Rattle.std.proofs.Math.ListN.{length}
use Rattle.eb3.specs.Generic.Booleans.{T_and, T_fst, T_not_and}
use Rattle.eb3.specs.Generic.PositionsAppend.{optional, on_both}
use Rattle.eb3.specs.Generic.Invertible.{Invertible, square, optional_invertible, with_invertible, sum_invertible, pairs_invertible}
use Rattle.eb3.specs.Expressions.{Cond}
use Rattle.eb3.specs.Terms.{Term, Action, VisibleAction, Mask, in_mask, done?, same_action}
use Rattle.eb3.proofs.Laws.Terms.{same_action_refl}
use Rattle.eb3.specs.Derivations.{DataState, Step, S_3, S_10, Derivation, derivation}
use Rattle.eb3.proofs.Laws.Derivations.{no_step, only_internal, only_action, only_end, after_done, after_done_back, choose, chosen, chosen_choose, choose_chosen, first_part, first_done, first_done_part, round, rounded, rounded_round, round_rounded, open_guard, open_guard_back, part, unpart, unpart_part, part_unpart, Sides, agreed, Key, Key_set}
use Rattle.eb3.specs.RuleSets.{RuleSet, process, main_process}
use Rattle.eb3.specs.Unfolding.{Valuation, unfold_main}
use Rattle.eb3.proofs.Laws.Unfolding.{below_is}
use Rattle.eb3.specs.WellFormedness.{Form}
use mathlib.Core.List.{[]}
use Rattle.eb3.specs.SourceTerms.{Source, s_done, s_internal, s_perform, s_sequence, s_choice, s_star, s_parallel, s_guard, s_call, substituted, SourceStep, R_1, R_1', R_2, R_3, R_4_left, R_4_right, R_5, R_6, R_7, R_8, R_9_left, R_9_right, R_10, R_11, SourceDerivation, unfold_source, CallsBelow}
use Rattle.eb3.proofs.Laws.SourceTerms.{Lower, well_formed_lower, source_forth, unfold_call, below_not_done, calls_weaken, substituted_below}

module _ (R : RuleSet) (low : Lower R) (S : DataState) (M : S.State) where
  abbrev pub D : Term → Type 0
  D E = Derivation S M E

  abbrev pub SD : Source → Type 0
  SD s = SourceDerivation R S M s

  abbrev sd : {s s' : Source} {ρ : Action} {M' : S.State} → SourceStep R S M s ρ s' M' → SD s
  sd {s' = s'} {ρ = ρ} {M' = M'} d = record { action = ρ; successor = s'; state = M'; step = d }

  -- The derivation of the unfolding: same action, same new state, unfolded successor.
  abbrev pub forward : (s : Source) → SD s → D (unfold_source R s)
  forward s x = record { action = x.action; successor = unfold_source R x.successor; state = x.state; step = source_forth R low S M x.step }

  no_source : {s' : Source} {ρ : Action} {M' : S.State} → SourceStep R S M s_done ρ s' M' → ⊥
  no_source d = elim d [ ]

  only_R_1 : {a : VisibleAction} {s' : Source} {ρ : Action} {M' : S.State} (d : SourceStep R S M (s_perform a) ρ s' M') → sd R_1 ≡ sd d
  only_R_1 R_1 = refl

  only_R_1' : {s' : Source} {ρ : Action} {M' : S.State} (d : SourceStep R S M s_internal ρ s' M') → sd R_1' ≡ sd d
  only_R_1' R_1' = refl

  done_invertible : Invertible (forward s_done)
  done_invertible = record { inverse = λ d. absurd (no_step S M d.step); left = λ x. absurd (no_source x.step); right = λ d. absurd (no_step S M d.step) }

  internal_invertible : Invertible (forward s_internal)
  unfolding source_forth
  internal_invertible = record { inverse = λ d. sd R_1'; left = λ x. only_R_1' x.step; right = λ d. only_internal S M d.step }

  perform_invertible : (a : VisibleAction) → Invertible (forward (s_perform a))
  unfolding source_forth
  perform_invertible a = record { inverse = λ d. sd R_1; left = λ x. only_R_1 x.step; right = λ d. only_action S M d.step }

  -- Choice.
  abbrev s_choose : {s t s' : Source} {ρ : Action} {M' : S.State} → SourceStep R S M (s_choice s t) ρ s' M' → SD s ⊎ SD t
  s_choose (R_4_left d) = inl (sd d)
  s_choose (R_4_right d) = inr (sd d)

  abbrev s_chosen : {s t : Source} → SD s ⊎ SD t → SD (s_choice s t)
  s_chosen (inl d) = sd (R_4_left d.step)
  s_chosen (inr d) = sd (R_4_right d.step)

  s_chosen_choose : {s t s' : Source} {ρ : Action} {M' : S.State} (d : SourceStep R S M (s_choice s t) ρ s' M') → s_chosen (s_choose d) ≡ sd d
  s_chosen_choose (R_4_left d) = refl
  s_chosen_choose (R_4_right d) = refl

  s_choose_chosen : {s t : Source} (x : SD s ⊎ SD t) → s_choose (s_chosen x).step ≡ x
  s_choose_chosen (inl d) = refl
  s_choose_chosen (inr d) = refl

  choose_square : {s t s' : Source} {ρ : Action} {M' : S.State} (d : SourceStep R S M (s_choice s t) ρ s' M') → choose S M (forward (s_choice s t) (sd d)).step ≡ on_both (forward s) (forward t) (s_choose d)
  unfolding source_forth
  choose_square (R_4_left d) = refl
  choose_square (R_4_right d) = refl

  choice_invertible : (s t : Source) → Invertible (forward s) → Invertible (forward t) → Invertible (forward (s_choice s t))
  unfolding source_forth
  choice_invertible s t i j = square
      (record { fun = λ x. s_choose x.step; inv = s_chosen; rinv = s_choose_chosen; linv = λ x. s_chosen_choose x.step })
      (record { fun = λ d. choose S M d.step; inv = chosen S M; rinv = choose_chosen S M; linv = λ d. chosen_choose S M d.step })
      (forward (s_choice s t)) (on_both (forward s) (forward t)) (λ x. choose_square x.step) (sum_invertible (forward s) (forward t) i j)

  -- Star.
  abbrev s_round : {s s' : Source} {ρ : Action} {M' : S.State} → SourceStep R S M (s_star s) ρ s' M' → Option (SD s)
  s_round R_5 = none
  s_round (R_6 d) = some (sd d)

  abbrev s_rounded : {s : Source} → Option (SD s) → SD (s_star s)
  s_rounded none = sd R_5
  s_rounded (some d) = sd (R_6 d.step)

  s_rounded_round : {s s' : Source} {ρ : Action} {M' : S.State} (d : SourceStep R S M (s_star s) ρ s' M') → s_rounded (s_round d) ≡ sd d
  s_rounded_round R_5 = refl
  s_rounded_round (R_6 d) = refl

  s_round_rounded : {s : Source} (o : Option (SD s)) → s_round (s_rounded o).step ≡ o
  s_round_rounded none = refl
  s_round_rounded (some d) = refl

  round_square : {s s' : Source} {ρ : Action} {M' : S.State} (d : SourceStep R S M (s_star s) ρ s' M') → round S M (forward (s_star s) (sd d)).step ≡ optional (forward s) (s_round d)
  unfolding source_forth
  round_square R_5 = refl
  round_square (R_6 d) = refl

  star_invertible : (s : Source) → Invertible (forward s) → Invertible (forward (s_star s))
  unfolding source_forth
  star_invertible s i = square
      (record { fun = λ x. s_round x.step; inv = s_rounded; rinv = s_round_rounded; linv = λ x. s_rounded_round x.step })
      (record { fun = λ d. round S M d.step; inv = rounded S M; rinv = round_rounded S M; linv = λ d. rounded_round S M d.step })
      (forward (s_star s)) (optional (forward s)) (λ x. round_square x.step) (optional_invertible (forward s) i)

  -- Sequence.
  abbrev s_after : {t s' : Source} {ρ : Action} {M' : S.State} → SourceStep R S M (s_sequence s_done t) ρ s' M' → SD t
  s_after (R_2 d) = absurd (no_source d)
  s_after (R_3 d) = sd d

  s_after_back : {t s' : Source} {ρ : Action} {M' : S.State} (d : SourceStep R S M (s_sequence s_done t) ρ s' M') → sd (R_3 (s_after d).step) ≡ sd d
  s_after_back (R_2 d) = absurd (no_source d)
  s_after_back (R_3 d) = refl

  after_square : {t s' : Source} {ρ : Action} {M' : S.State} (d : SourceStep R S M (s_sequence s_done t) ρ s' M') → after_done S M (forward (s_sequence s_done t) (sd d)).step ≡ forward t (s_after d)
  unfolding source_forth after_done
  after_square (R_2 d) = absurd (no_source d)
  after_square (R_3 d) = refl

  after_invertible : (t : Source) → Invertible (forward t) → Invertible (forward (s_sequence s_done t))
  unfolding source_forth after_done
  after_invertible t i = square
      (record { fun = λ x. s_after x.step; inv = λ y. sd (R_3 y.step); rinv = λ y. refl; linv = λ x. s_after_back x.step })
      (record { fun = λ d. after_done S M d.step; inv = λ e. derivation (S_3 e.step); rinv = λ e. refl; linv = λ d. after_done_back S M d.step })
      (forward (s_sequence s_done t)) (forward t) (λ x. after_square x.step) i

  module _ (s t : Source) (h : T (not (done? (unfold_source R s)))) where
    unfoldable s_first : {u s' : Source} {ρ : Action} {M' : S.State} → T (not (done? (unfold_source R u))) → SourceStep R S M (s_sequence u t) ρ s' M' → SD u
    unfolding done?
    s_first k (R_2 d) = sd d
    s_first k (R_3 d) = absurd k

    s_first_back : {u s' : Source} {ρ : Action} {M' : S.State} (k : T (not (done? (unfold_source R u)))) (d : SourceStep R S M (s_sequence u t) ρ s' M') → sd {s = s_sequence u t} (R_2 (s_first k d).step) ≡ sd d
    unfolding done? s_first
    s_first_back k (R_2 d) = refl
    s_first_back k (R_3 d) = absurd k

    first_square : {u s' : Source} {ρ : Action} {M' : S.State} (k : T (not (done? (unfold_source R u)))) (d : SourceStep R S M (s_sequence u t) ρ s' M')
        → first_part S M k (forward (s_sequence u t) (sd d)).step ≡ forward u (s_first k d)
    unfolding done? s_first source_forth
    first_square k (R_2 d) = refl
    first_square k (R_3 d) = absurd k

    sequence_invertible : Invertible (forward s) → Invertible (forward (s_sequence s t))
    unfolding done? s_first source_forth
    sequence_invertible i = square
        (record { fun = λ x. s_first h x.step; inv = λ y. sd (R_2 y.step); rinv = λ y. refl; linv = λ x. s_first_back h x.step })
        (record { fun = λ d. first_part S M h d.step; inv = first_done S M; rinv = λ e. refl; linv = λ d. first_done_part S M h d.step })
        (forward (s_sequence s t)) (forward s) (λ x. first_square h x.step) i

  -- Guard.
  abbrev s_open : {C : Cond} {s s' : Source} {ρ : Action} {M' : S.State} → SourceStep R S M (s_guard C s) ρ s' M' → T (S.satisfies M C) × SD s
  s_open (R_10 h d) = (h, sd d)

  s_open_back : {C : Cond} {s s' : Source} {ρ : Action} {M' : S.State} (d : SourceStep R S M (s_guard C s) ρ s' M') → sd (R_10 (s_open d).0 (s_open d).1.step) ≡ sd d
  s_open_back (R_10 h d) = refl

  open_square : {C : Cond} {s s' : Source} {ρ : Action} {M' : S.State} (d : SourceStep R S M (s_guard C s) ρ s' M')
      → open_guard S M (forward (s_guard C s) (sd d)).step ≡ ((s_open d).0, forward s (s_open d).1)
  unfolding source_forth
  open_square (R_10 h d) = refl

  guard_invertible : (C : Cond) (s : Source) → Invertible (forward s) → Invertible (forward (s_guard C s))
  unfolding source_forth
  guard_invertible C s i = square
      (record { fun = λ x. s_open x.step; inv = λ z. sd (R_10 z.0 z.1.step); rinv = λ z. refl; linv = λ x. s_open_back x.step })
      (record { fun = λ d. open_guard S M d.step; inv = λ z. derivation (S_10 z.0 z.1.step); rinv = λ z. refl; linv = λ d. open_guard_back S M (open_guard S M d.step).0 d.step })
      (forward (s_guard C s)) (λ z. (z.0, forward s z.1)) (λ x. open_square x.step)
      (record { inverse = λ z. (z.0, i.inverse z.1); left = λ z. λ j. (z.0, i.left z.1 j); right = λ z. λ j. (z.0, i.right z.1 j) })

  -- Parallel, both done.
  s_only_end : {Δ : Mask} {s' : Source} {ρ : Action} {M' : S.State} (d : SourceStep R S M (s_parallel Δ s_done s_done) ρ s' M') → sd (R_7 {Δ = Δ}) ≡ sd d
  s_only_end R_7 = refl
  s_only_end (R_8 h d e) = absurd (no_source d)
  s_only_end (R_9_left h d) = absurd (no_source d)
  s_only_end (R_9_right h d) = absurd (no_source d)

  end_invertible : (Δ : Mask) → Invertible (forward (s_parallel Δ s_done s_done))
  unfolding source_forth
  end_invertible Δ = record { inverse = λ d. sd R_7; left = λ x. s_only_end x.step; right = λ d. only_end S M d.step }

  -- Parallel, not both done: as in Laws/Derivations.
  abbrev SFree : Mask → Source → Type 0
  SFree Δ s = (x : SD s) × T (not (in_mask Δ x.action))

  abbrev SJoined : Mask → Source → Source → Type 0
  SJoined Δ s t = (x : SD s) × (y : SD t) × T (in_mask Δ x.action && same_action x.action y.action)

  abbrev SSides : Mask → Source → Source → Type 0
  SSides Δ s t = SFree Δ s ⊎ (SFree Δ t ⊎ SJoined Δ s t)

  abbrev s_part : {Δ : Mask} {s t s' : Source} {ρ : Action} {M' : S.State} → T (not (done? (unfold_source R s) && done? (unfold_source R t))) → SourceStep R S M (s_parallel Δ s t) ρ s' M' → SSides Δ s t
  unfolding done?
  s_part n R_7 = absurd n
  s_part {Δ} {ρ = ρ} n (R_8 h d e) = inr (inr (sd d, sd e, T_and (in_mask Δ ρ) (same_action ρ ρ) h (same_action_refl ρ)))
  s_part n (R_9_left h d) = inl (sd d, h)
  s_part n (R_9_right h d) = inr (inl (sd d, h))

  s_carry : {t t' : Source} {k k' : Key S M} → k ≡ k' → SourceStep R S M t k.0 t' k.1 → SourceStep R S M t k'.0 t' k'.1
  s_carry {t} {t'} p e = subst (λ (x : Key S M). SourceStep R S M t x.0 t' x.1) p e

  s_carry_refl : {t t' : Source} {k : Key S M} (e : SourceStep R S M t k.0 t' k.1) → s_carry {k = k} refl e ≡ e
  unfolding s_carry
  s_carry_refl {t} {t'} e = subst_refl (λ (x : Key S M). SourceStep R S M t x.0 t' x.1) e

  s_carried : {t t' : Source} {k k' : Key S M} (p : k ≡ k') (e : SourceStep R S M t k.0 t' k.1) → sd (s_carry p e) ≡ sd e
  s_carried {t} {t'} {k} p e = path_j (λ (k' : Key S M) (q : k ≡ k'). sd (s_carry q e) ≡ sd e) (λ i. sd (s_carry_refl {k = k} e i)) p

  s_carry_loop : {t t' : Source} {k : Key S M} (p : k ≡ k) (e : SourceStep R S M t k.0 t' k.1) → s_carry p e ≡ e
  s_carry_loop {k = k} p e = (λ i. s_carry (Key_set S M k k p refl i) e) ∙ s_carry_refl {k = k} e

  s_agreed : (Δ : Mask) {s t : Source} (x : SD s) (y : SD t) → T (in_mask Δ x.action && same_action x.action y.action) → Path (Key S M) (y.action, y.state) (x.action, x.state)
  s_agreed Δ {s} {t} x y m = agreed S M Δ (forward s x) (forward t y) m

  abbrev s_unpart : {Δ : Mask} {s t : Source} → SSides Δ s t → SD (s_parallel Δ s t)
  s_unpart (inl z) = sd (R_9_left z.1 z.0.step)
  s_unpart (inr (inl z)) = sd (R_9_right z.1 z.0.step)
  s_unpart {Δ} (inr (inr z)) = sd (R_8 (T_fst (in_mask Δ z.0.action) (same_action z.0.action z.1.action) z.2) z.0.step (s_carry (s_agreed Δ z.0 z.1 z.2) z.1.step))

  s_rejoin : (Δ : Mask) {s t s' t' : Source} {ρ : Action} {M' : S.State} (h : T (in_mask Δ ρ)) (d : SourceStep R S M s ρ s' M') (e : SourceStep R S M t ρ t' M') (m : T (in_mask Δ ρ && same_action ρ ρ))
      → Path (SD (s_parallel Δ s t)) (sd (R_8 (T_fst (in_mask Δ ρ) (same_action ρ ρ) m) d (s_carry (s_agreed Δ (sd d) (sd e) m) e))) (sd (R_8 h d e))
  s_rejoin Δ {ρ = ρ} {M' = M'} h d e m = λ i. sd (R_8 (T_prop (in_mask Δ ρ) (T_fst (in_mask Δ ρ) (same_action ρ ρ) m) h i) d (s_carry_loop {k = (ρ, M')} (s_agreed Δ (sd d) (sd e) m) e i))

  s_rejoined : (Δ : Mask) {s t : Source} (x : SD s) (y : SD t) (m : T (in_mask Δ x.action && same_action x.action y.action)) (u : T (in_mask Δ x.action && same_action x.action x.action))
      → Path (SJoined Δ s t) (x, sd (s_carry (s_agreed Δ x y m) y.step), u) (x, y, m)
  s_rejoined Δ x y m u =
      let c : sd (s_carry (s_agreed Δ x y m) y.step) ≡ y = s_carried (s_agreed Δ x y m) y.step in
      λ i. (x, c i, is_prop→PathP (λ j. T (in_mask Δ x.action && same_action x.action (c j).action)) (λ j. T_prop (in_mask Δ x.action && same_action x.action (c j).action)) u m i)

  s_unpart_part : {Δ : Mask} {s t s' : Source} {ρ : Action} {M' : S.State} (n : T (not (done? (unfold_source R s) && done? (unfold_source R t)))) (d : SourceStep R S M (s_parallel Δ s t) ρ s' M')
      → s_unpart {Δ = Δ} (s_part n d) ≡ sd d
  unfolding done?
  s_unpart_part n R_7 = absurd n
  s_unpart_part n (R_8 {Δ = Δ} {ρ = ρ} h d e) = s_rejoin Δ h d e (T_and (in_mask Δ ρ) (same_action ρ ρ) h (same_action_refl ρ))
  s_unpart_part n (R_9_left h d) = refl
  s_unpart_part n (R_9_right h d) = refl

  s_part_unpart : (Δ : Mask) {s t : Source} (n : T (not (done? (unfold_source R s) && done? (unfold_source R t)))) (z : SSides Δ s t) → s_part n (s_unpart {Δ = Δ} z).step ≡ z
  unfolding done?
  s_part_unpart Δ n (inl z) = refl
  s_part_unpart Δ n (inr (inl z)) = refl
  s_part_unpart Δ n (inr (inr z)) = ap {B = SSides Δ _ _} (λ x. inr (inr x))
      (s_rejoined Δ z.0 z.1 z.2 (T_and (in_mask Δ z.0.action) (same_action z.0.action z.0.action) (T_fst (in_mask Δ z.0.action) (same_action z.0.action z.1.action) z.2) (same_action_refl z.0.action)))

  part_square : {Δ : Mask} {s t s' : Source} {ρ : Action} {M' : S.State} (n : T (not (done? (unfold_source R s) && done? (unfold_source R t)))) (d : SourceStep R S M (s_parallel Δ s t) ρ s' M')
      → part S M n (forward (s_parallel Δ s t) (sd d)).step
      ≡ on_both (λ z. (forward s z.0, z.1)) (on_both (λ z. (forward t z.0, z.1)) (λ z. (forward s z.0, forward t z.1, z.2))) (s_part n d)
  unfolding done? source_forth
  part_square n R_7 = absurd n
  part_square n (R_8 h d e) = refl
  part_square n (R_9_left h d) = refl
  part_square n (R_9_right h d) = refl

  module _ (Δ : Mask) (s t : Source) (n : T (not (done? (unfold_source R s) && done? (unfold_source R t)))) where
    abbrev outside : {E : Term} → D E → Bool
    outside d = not (in_mask Δ d.action)

    abbrev together : {E F : Term} → D E → D F → Bool
    together d e = in_mask Δ d.action && same_action d.action e.action

    abbrev sides : SSides Δ s t → Sides S M Δ (unfold_source R s) (unfold_source R t)
    sides = on_both (λ z. (forward s z.0, z.1)) (on_both (λ z. (forward t z.0, z.1)) (λ z. (forward s z.0, forward t z.1, z.2)))

    parallel_invertible : Invertible (forward s) → Invertible (forward t) → Invertible (forward (s_parallel Δ s t))
    parallel_invertible i j = square
        (record { fun = λ x. s_part n x.step; inv = s_unpart {Δ = Δ}; rinv = s_part_unpart Δ n; linv = λ x. s_unpart_part n x.step })
        (record { fun = λ d. part S M n d.step; inv = unpart S M {Δ = Δ}; rinv = part_unpart S M Δ n; linv = λ d. unpart_part S M n d.step })
        (forward (s_parallel Δ s t)) sides (λ x. part_square n x.step)
        (sum_invertible _ _ (with_invertible (forward s) i outside) (sum_invertible _ _ (with_invertible (forward t) j outside) (pairs_invertible (forward s) (forward t) i j together)))

  -- Call: rule 11.
  abbrev s_enter : {p : ℕ} {ts : Valuation} {s' : Source} {ρ : Action} {M' : S.State} → SourceStep R S M (s_call p ts) ρ s' M' → SD (substituted R (process R p).term ts)
  s_enter (R_11 h d) = sd d

  s_enter_back : {p : ℕ} {ts : Valuation} {s' : Source} {ρ : Action} {M' : S.State} (h : p < length R.processes) (d : SourceStep R S M (s_call p ts) ρ s' M') → sd (R_11 {p = p} {ts = ts} h (s_enter d).step) ≡ sd d
  s_enter_back {p} {ts} h (R_11 k d) = λ i. sd (R_11 {p = p} {ts = ts} (le_prop h k i) d)

  transported : {E F : Term} (e : E ≡ F) → Invertible (subst D e)
  transported {E} e = path_j (λ (F : Term) (q : E ≡ F). Invertible (subst D q)) (record { inverse = λ d. d; left = subst_refl D; right = subst_refl D }) e

  moved : {E F G : Term} {ρ : Action} {M' : S.State} (e : E ≡ F) (d : Step S M E ρ G M') → derivation (subst (λ E. Step S M E ρ G M') e d) ≡ subst D e (derivation d)
  moved {E} {F} {G} {ρ} {M'} e d = path_j (λ (F : Term) (q : E ≡ F). derivation (subst (λ E. Step S M E ρ G M') q d) ≡ subst D q (derivation d))
      ((λ i. derivation (subst_refl (λ E. Step S M E ρ G M') d i)) ∙ sym (subst_refl D (derivation d))) e

  entered : {p : ℕ} {ts : Valuation} {s' : Source} {ρ : Action} {M' : S.State} (h : p < length R.processes) (d : SourceStep R S M (s_call p ts) ρ s' M')
      → forward (s_call p ts) (sd d) ≡ subst D (unfold_call R low p h ts) (forward (substituted R (process R p).term ts) (s_enter d))
  unfolding source_forth
  entered {p} {ts} h (R_11 k d) = moved (unfold_call R low p k ts) (source_forth R low S M d)
      ∙ ap (λ (l : p < length R.processes). subst D (unfold_call R low p l ts) (forward (substituted R (process R p).term ts) (sd d))) (le_prop k h)

  call_invertible : (p : ℕ) (ts : Valuation) → p < length R.processes → Invertible (forward (substituted R (process R p).term ts)) → Invertible (forward (s_call p ts))
  call_invertible p ts h i =
      let w : Invertible (subst D (unfold_call R low p h ts)) = transported (unfold_call R low p h ts) in
      square (record { fun = λ x. s_enter x.step; inv = λ y. sd (R_11 {p = p} {ts = ts} h y.step); rinv = λ y. refl; linv = λ x. s_enter_back h x.step })
      (record { fun = w.inverse; inv = subst D (unfold_call R low p h ts); rinv = w.left; linv = w.right })
      (forward (s_call p ts)) (forward (substituted R (process R p).term ts)) (λ x. ap w.inverse (entered h x.step) ∙ w.left (forward (substituted R (process R p).term ts) (s_enter x.step))) i

  -- Done, or not.
  source_ending : (s : Source) → CallsBelow (length R.processes) s → (s ≡ s_done) ⊎ T (not (done? (unfold_source R s)))
  unfolding done?
  source_ending s_done b = inl refl
  source_ending s_internal b = inr tt
  source_ending (s_perform a) b = inr tt
  source_ending (s_sequence s t) b = inr tt
  source_ending (s_choice s t) b = inr tt
  source_ending (s_star s) b = inr tt
  source_ending (s_parallel Δ s t) b = inr tt
  source_ending (s_guard C s) b = inr tt
  source_ending (s_call p ts) b = inr (below_not_done R low (length R.processes) (omega arith) p b ts)

  sequence_either : (s t : Source) → (s ≡ s_done) ⊎ T (not (done? (unfold_source R s))) → Invertible (forward s) → Invertible (forward t) → Invertible (forward (s_sequence s t))
  sequence_either s t (inl e) i j = subst (λ u. Invertible (forward (s_sequence u t))) (sym e) (after_invertible t j)
  sequence_either s t (inr h) i j = sequence_invertible s t h i

  not_and_right : (a b : Bool) → T (not b) → T (not (a && b))
  not_and_right true b h = h
  not_and_right false b h = tt

  parallel_either : (Δ : Mask) (s t : Source) → (s ≡ s_done) ⊎ T (not (done? (unfold_source R s))) → (t ≡ s_done) ⊎ T (not (done? (unfold_source R t)))
      → Invertible (forward s) → Invertible (forward t) → Invertible (forward (s_parallel Δ s t))
  parallel_either Δ s t (inl e) (inl g) i j =
      subst (λ u. Invertible (forward (s_parallel Δ u t))) (sym e) (subst (λ u. Invertible (forward (s_parallel Δ s_done u))) (sym g) (end_invertible Δ))
  parallel_either Δ s t (inl e) (inr h) i j = parallel_invertible Δ s t (not_and_right (done? (unfold_source R s)) (done? (unfold_source R t)) h) i j
  parallel_either Δ s t (inr h) g i j = parallel_invertible Δ s t (T_not_and (done? (unfold_source R s)) (done? (unfold_source R t)) h) i j

  invertible : (i : ℕ) → i ≤ length R.processes → ((p : ℕ) → p < i → (ts : Valuation) → Invertible (forward (s_call p ts))) → (s : Source) → CallsBelow i s → Invertible (forward s)
  invertible i l c s_done b = done_invertible
  invertible i l c s_internal b = internal_invertible
  invertible i l c (s_perform a) b = perform_invertible a
  invertible i l c (s_sequence s t) b = sequence_either s t (source_ending s (calls_weaken R low i (length R.processes) l s b.0)) (invertible i l c s b.0) (invertible i l c t b.1)
  invertible i l c (s_choice s t) b = choice_invertible s t (invertible i l c s b.0) (invertible i l c t b.1)
  invertible i l c (s_star s) b = star_invertible s (invertible i l c s b)
  invertible i l c (s_parallel Δ s t) b = parallel_either Δ s t (source_ending s (calls_weaken R low i (length R.processes) l s b.0)) (source_ending t (calls_weaken R low i (length R.processes) l t b.1))
      (invertible i l c s b.0) (invertible i l c t b.1)
  invertible i l c (s_guard C s) b = guard_invertible C s (invertible i l c s b)
  invertible i l c (s_call p ts) b = c p b ts

  calls_invertible : (i : ℕ) → i ≤ length R.processes → (p : ℕ) → p < i → (ts : Valuation) → Invertible (forward (s_call p ts))
  calls_invertible zero l p h ts = let z : ⊥ = omega arith in absurd z
  calls_invertible (suc i) l p h ts = call_invertible p ts (omega arith)
      (invertible i (omega arith) (calls_invertible i (omega arith)) (substituted R (process R p).term ts)
      (calls_weaken R low p i (omega arith) (substituted R (process R p).term ts) (substituted_below R low p (process R p).term (low p (omega arith)) ts)))

  -- The derivations of a source term and of its unfolding are one to one, by `forward`.
  pub source_derivations : (s : Source) → CallsBelow (length R.processes) s → Invertible (forward s)
  source_derivations s b = invertible (length R.processes) (omega arith) (calls_invertible (length R.processes) (omega arith)) s b

-- Main as a call of the last process.
module _ (R : RuleSet) (good : Form R) where
  pub main_call : unfold_source R (s_call (main_process R) []) ≡ unfold_main R
  unfolding unfold_main
  main_call = below_is R (length R.processes) (main_process R) (omega (arith, good.process_count.0)) []

  pub main_derivations : (S : DataState) (M : S.State) → Invertible (forward R (well_formed_lower R good) S M (s_call (main_process R) []))
  main_derivations S M = source_derivations R (well_formed_lower R good) S M (s_call (main_process R) []) (omega (arith, good.process_count.0))
