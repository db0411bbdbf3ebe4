-- The path of the k-th move that shows leads to that move (document 01, "Moves, in order"), has the left operands' sizes in it, and is no longer than the
-- term.
use Rattle.std.specs.Prelude.{◌≡◌, Bool, ◌&&◌, cond, List, [], ◌∷◌, ◌++◌, map, eqb, ltb}
use Rattle.std.proofs.Math.Path.{refl, ap}
use Rattle.std.proofs.Common.{sym, ◌∙◌, subst, append_assoc, length-append, ltb-true, ltb-false, eq-eqb}
use Rattle.std.proofs.Math.Bool.{true, false}
use Rattle.std.proofs.Math.Option.{some, some-injective, none-ne-some}
use Prim.Native.Nat.{ℕ, zero, suc, ◌+◌, ◌-◌, ◌≤◌}
use native.Mathlib.Omega.{arith}
use Rattle.std.proofs.Math.Dec.{eqb-suc-zero}
use Rattle.std.proofs.Math.ListN.{length, get_elem?}
use Rattle.std.specs.Int.Bits.{bit_or}
use Rattle.eb3.specs.Generic.Lists.{filter, concat_map}
use Rattle.eb3.specs.Expressions.{Cond}
use Rattle.eb3.specs.Terms.{Term, Done, Internal, Perform, Sequence, Choice, Star, Parallel, Guard, internal, visible, Mask, same_action, done?}
use Rattle.eb3.specs.Moves.{Move, move, moves, sequenced, left_move, right_move, synchronised}
use Rattle.eb3.specs.Reading.{pick}
use Rattle.eb3.specs.Sizes.{size}
use Rattle.eb3.proofs.Laws.Sizes.{size_pos}
use Rattle.eb3.proofs.Laws.TransitionSystems.{getElem?_unmap}
use Rattle.actions.specs.Laws.Codes.{same_code}
use Rattle.actions.specs.Sets.{mask_set, has_all}
use Rattle.paths.specs.Paths.{Sought, at, beyond, seek, Sides, left_alone, right_alone, together, nowhere, or_left, or_right, seek_pair, locate, alone, paired, shown?, shown, numbers, idle, path_by, path_in_turn, path, Followed, followed, within, follow, marked}
use Rattle.paths.proofs.SeekLaws.{Seen, seek_seen, Paired, pair_seen, entry_first, entry_made, entry_behind}
use Rattle.paths.proofs.SmallLaws.{SmallActions, move_action_small}
use Rattle.paths.proofs.ShownLaws.{code, SmallMoves, beside, shown_all, shown_after_done, shown_sequence, shown_choice, shown_star, shown_both_done, shown_guard, shown_shut, shown_parallel, shown_covered, shown_idle_left, shown_idle_right}

-- ── the sides of the k-th of a parallel's moves ──

module _ (x : ℕ) (Δ : Mask) (E F : Term) (xs ys : List Move) where
  abbrev p : ℕ → Bool
  p = alone x (mask_set Δ)

  abbrev q : ℕ → Bool
  q = paired x (mask_set Δ)

  -- v is the move of the sides found.
  abbrev pub Located : Move → Sides → Type 0
  Located v (left_alone i) = (u : Move) × (get_elem? xs i ≡ some u) × (left_move Δ F u ≡ v)
  Located v (right_alone j) = (w : Move) × (get_elem? ys j ≡ some w) × (right_move Δ E w ≡ v)
  Located v (together i j) = (u : Move) × (w : Move) × (get_elem? xs i ≡ some u) × (get_elem? ys j ≡ some w) × (synchronised Δ u w ≡ v)
  Located v nowhere = ⊥

  abbrev alone_in : List Move → List Move
  alone_in l = filter (λ m. p (code m)) l

  abbrev together_moves : List Move
  together_moves = concat_map (λ u. map (synchronised Δ u) (filter (λ w. q (code u) && same_action u.action w.action) ys)) xs

  from_pair : (v : Move) (s : Sides) → Paired code (λ (u : Move). q (code u)) (λ (u w : Move). same_action u.action w.action) (synchronised Δ) xs ys 0 v s → Located v s
  from_pair v (left_alone i) h = absurd h
  from_pair v (right_alone j) h = absurd h
  from_pair v (together i j) h =
      let e : i ≡ h.0 = omega (arith, h.3) in
      (h.1, h.2, subst (λ n. get_elem? xs n ≡ some h.1) (sym e) h.4, h.5, h.6)
  from_pair v nowhere h = absurd h

  module _ (small : SmallMoves xs) (smalls : SmallMoves ys) where
    located_pair : (k : ℕ) (v : Move) → get_elem? together_moves k ≡ some v → Located v (seek_pair q 0 (map code xs) (map code ys) k)
    located_pair k v e =
        from_pair v (seek_pair q 0 (map code xs) (map code ys) k)
        (pair_seen code (λ (u : Move). q (code u)) (λ (u w : Move). same_action u.action w.action) (synchronised Δ) q xs ys
        (λ i u h. refl)
        (λ i j u w h l. sym (same_code u.action w.action (small.small i u h) (smalls.small j w l))) 0 k v e)

    located_right : (k : ℕ) (v : Move) (s : Sought) → Seen ys (alone_in ys) k s
        → get_elem? (map (right_move Δ E) (alone_in ys) ++ together_moves) k ≡ some v → Located v (or_right q (map code xs) (map code ys) s)
    located_right k v (at j) h e =
        let w = entry_made (right_move Δ E) (alone_in ys) together_moves k v h.1 e in
        (w.0, h.0 ∙ w.1, w.2)
    located_right k v (beyond j) h e = located_pair j v (sym (entry_behind (right_move Δ E) (alone_in ys) together_moves k j h) ∙ e)

    seen_in : (l : List Move) (k : ℕ) → Seen l (alone_in l) k (seek p (map code l) k)
    seen_in l k = seek_seen code p (λ m. p (code m)) l (λ i u h. refl) k

    located_left : (k : ℕ) (v : Move) (s : Sought) → Seen xs (alone_in xs) k s → get_elem? (beside x Δ E F xs ys) k ≡ some v → Located v (or_left p q (map code xs) (map code ys) s)
    located_left k v (at i) h e =
        let w = entry_made (left_move Δ F) (alone_in xs) (map (right_move Δ E) (alone_in ys) ++ together_moves) k v h.1 e in
        (w.0, h.0 ∙ w.1, w.2)
    located_left k v (beyond j) h e =
        located_right j v (seek p (map code ys) j) (seen_in ys j)
        (sym (entry_behind (left_move Δ F) (alone_in xs) (map (right_move Δ E) (alone_in ys) ++ together_moves) k j h) ∙ e)

    pub located : (k : ℕ) (v : Move) → get_elem? (beside x Δ E F xs ys) k ≡ some v → Located v (locate p q (map code xs) (map code ys) k)
    unfolding locate
    located k v e = located_left k v (seek p (map code xs) k) (seen_in xs k) e

module _ (width : ℕ) where
  -- ── the path of a move leads to it ──

  abbrev reached : Move → List ℕ → Followed
  reached m rest = followed m.action m.successor rest

  -- The words l lead through E to m, whatever follows them.
  abbrev pub LeadsTo : Term → List ℕ → Move → Type 0
  LeadsTo E l m = (rest : List ℕ) → (follow E (l ++ rest) ≡ reached m rest) × (marked width E (l ++ rest) ≡ true)

  -- The k-th move that shows has a path.
  abbrev Leads : (Cond → Bool) → Term → Type 0
  Leads g E = (x k : ℕ) (m : Move) → get_elem? (shown x g E) k ≡ some m → LeadsTo E (path width x g E k) m

  first_holds : (n : ℕ) (b : Bool) → b ≡ true → (eqb n n && b) ≡ true
  first_holds n b e = ap (λ c. c && b) (eq-eqb n n refl) ∙ e

  module _ (g : Cond → Bool) where
    no_second : (m n : Move) (k : ℕ) → get_elem? (m ∷ []) k ≡ some n → m ≡ n
    no_second m n zero e = some-injective m n e
    no_second m n (suc k) e = absurd (none-ne-some n e)

    lead_sequence : (E F : Term) (b : Bool) → done? E ≡ b → Leads g E → Leads g F → (x k : ℕ) (m : Move) → get_elem? (shown x g (Sequence E F)) k ≡ some m
        → (rest : List ℕ) → (cond b (follow F (cond b (path width x g F k) (path width x g E k) ++ rest)) (within (λ z. Sequence z F) (follow E (cond b (path width x g F k) (path width x g E k) ++ rest))) ≡ reached m rest)
        × (cond b (marked width F (cond b (path width x g F k) (path width x g E k) ++ rest)) (marked width E (cond b (path width x g F k) (path width x g E k) ++ rest)) ≡ true)
    lead_sequence E F true d l r x k m e rest = r x k m (sym (ap (λ t. get_elem? t k) (shown_after_done x g E F d)) ∙ e) rest
    lead_sequence E F false d l r x k m e rest =
        let u = getElem?_unmap (sequenced F) (shown x g E) k m (sym (ap (λ t. get_elem? t k) (shown_sequence x g E F d)) ∙ e) in
        let h = l x k u.0 u.1 rest in
        (ap (within (λ z. Sequence z F)) h.0 ∙ ap (λ (z : Move). reached z rest) u.2, h.1)

    -- Entry k of one list followed by another: of the one, or of the other.
    turn_left : {A B : Type 0} (f : A → B) (l : List A) (r : List B) (k : ℕ) (v : B) → ltb k (length l) ≡ true → get_elem? (map f l ++ r) k ≡ some v → (u : A) × (get_elem? l k ≡ some u) × (f u ≡ v)
    turn_left f l r k v t e = entry_made f l r k v (ltb-true k (length l) t) e

    turn_right : {A B : Type 0} (f : A → B) (l : List A) (r : List B) (k : ℕ) → ltb k (length l) ≡ false → get_elem? (map f l ++ r) k ≡ get_elem? r (k - length l)
    turn_right f l r k t = let h : length l ≤ k = ltb-false k (length l) t in entry_behind f l r k (k - length l) (omega arith)

    as_made : (l r : List Move) → l ++ r ≡ map (λ m. m) l ++ r
    as_made [] r = refl
    as_made (m ∷ l) r = ap (λ t. m ∷ t) (as_made l r)

    lead_choice : (E F : Term) → Leads g E → Leads g F → (x k : ℕ) (m : Move) (b : Bool) → ltb k (length (shown x g E)) ≡ b → get_elem? (shown x g E ++ shown x g F) k ≡ some m
        → LeadsTo (Choice E F) (pick b (0 ∷ path width x g E k) (1 ∷ size width E ∷ path width x g F (k - length (shown x g E)))) m
    unfolding follow marked
    lead_choice E F l r x k m true t e rest = l x k m (sym (entry_first (shown x g E) (shown x g F) k (ltb-true k (length (shown x g E)) t)) ∙ e) rest
    lead_choice E F l r x k m false t e rest =
        let q = turn_right (λ (z : Move). z) (shown x g E) (shown x g F) k t in
        let h = r x (k - length (shown x g E)) m (sym q ∙ ap (λ z. get_elem? z k) (sym (as_made (shown x g E) (shown x g F))) ∙ e) rest in
        (h.0, first_holds (size width E) _ h.1)

    lead_star : (E : Term) → Leads g E → (x k : ℕ) (m : Move) → get_elem? (move internal Done ∷ map (sequenced (Star E)) (shown x g E)) k ≡ some m
        → LeadsTo (Star E) (pick (eqb k 0) (0 ∷ []) (1 ∷ path width x g E (k - 1))) m
    unfolding follow marked
    lead_star E l x zero m e rest = (ap (λ (z : Move). reached z rest) (some-injective (move internal Done) m e), refl)
    lead_star E l x (suc k) m e rest =
        let u = getElem?_unmap (sequenced (Star E)) (shown x g E) k m e in
        let d : suc k - 1 ≡ k = omega arith in
        let h = l x k u.0 u.1 rest in
        rw (eqb-suc-zero k, d) (ap (within (λ z. Sequence z (Star E))) h.0 ∙ ap (λ (z : Move). reached z rest) u.2, h.1)

    module _ (Δ : Mask) (E F : Term) where
      go_left : (l : List ℕ) (u v : Move) → LeadsTo E l u → left_move Δ F u ≡ v → LeadsTo (Parallel Δ E F) (1 ∷ l) v
      unfolding follow marked
      go_left l u v h e rest = (ap (within (λ z. Parallel Δ z F)) (h rest).0 ∙ ap (λ (z : Move). reached z rest) e, (h rest).1)

      go_right : (l : List ℕ) (w v : Move) → LeadsTo F l w → right_move Δ E w ≡ v → LeadsTo (Parallel Δ E F) (2 ∷ size width E ∷ l) v
      unfolding follow marked
      go_right l w v h e rest = (ap (within (λ z. Parallel Δ E z)) (h rest).0 ∙ ap (λ (z : Move). reached z rest) e, first_holds (size width E) _ (h rest).1)

      go_both : (l r : List ℕ) (u w v : Move) → LeadsTo E l u → LeadsTo F r w → synchronised Δ u w ≡ v → LeadsTo (Parallel Δ E F) (3 ∷ size width E ∷ (l ++ r)) v
      unfolding follow marked
      go_both l r u w v h k e rest =
          let first : follow E ((l ++ r) ++ rest) ≡ reached u (r ++ rest) = ap (follow E) (append_assoc l r rest) ∙ (h (r ++ rest)).0 in
          let one : marked width E ((l ++ r) ++ rest) ≡ true = ap (marked width E) (append_assoc l r rest) ∙ (h (r ++ rest)).1 in
          let two : marked width F (follow E ((l ++ r) ++ rest)).rest ≡ true = ap (λ (a : Followed). marked width F a.rest) first ∙ (k rest).1 in (
            ap (λ (a : Followed). followed a.action (Parallel Δ a.successor (follow F a.rest).successor) (follow F a.rest).rest) first
                ∙ (ap (λ (b : Followed). followed u.action (Parallel Δ u.successor b.successor) b.rest) (k rest).0
                ∙ ap (λ (z : Move). reached z rest) e),
            first_holds (size width E) _ (ap (λ b. b && marked width F (follow E ((l ++ r) ++ rest)).rest) one ∙ two),
          )

      lead_sides : Leads g E → Leads g F → (x : ℕ) (v : Move) (s : Sides) → Located x Δ E F (moves g E) (moves g F) v s → LeadsTo (Parallel Δ E F) (path_by (size width E) (path width 0 g E) (path width 0 g F) s) v
      lead_sides l r x v (left_alone i) h = go_left (path width 0 g E i) h.0 v (l 0 i h.0 (ap (λ t. get_elem? t i) (shown_all g E) ∙ h.1)) h.2
      lead_sides l r x v (right_alone j) h = go_right (path width 0 g F j) h.0 v (r 0 j h.0 (ap (λ t. get_elem? t j) (shown_all g F) ∙ h.1)) h.2
      lead_sides l r x v (together i j) h =
          go_both (path width 0 g E i) (path width 0 g F j) h.0 h.1 v (l 0 i h.0 (ap (λ t. get_elem? t i) (shown_all g E) ∙ h.2)) (r 0 j h.1 (ap (λ t. get_elem? t j) (shown_all g F) ∙ h.3)) h.4
      lead_sides l r x v nowhere h = absurd h

      lead_turn : Leads g E → Leads g F → (x k : ℕ) (v : Move) (b : Bool) → ltb k (length (shown x g E)) ≡ b
          → get_elem? (map (left_move Δ F) (shown x g E) ++ map (right_move Δ E) (shown x g F)) k ≡ some v
          → LeadsTo (Parallel Δ E F) (pick b (1 ∷ path width x g E k) (2 ∷ size width E ∷ path width x g F (k - length (shown x g E)))) v
      lead_turn l r x k v true t e =
          let u = turn_left (left_move Δ F) (shown x g E) (map (right_move Δ E) (shown x g F)) k v t e in
          go_left (path width x g E k) u.0 v (l x k u.0 u.1) u.2
      lead_turn l r x k v false t e =
          let u = getElem?_unmap (right_move Δ E) (shown x g F) (k - length (shown x g E)) v (sym (turn_right (left_move Δ F) (shown x g E) (map (right_move Δ E) (shown x g F)) k t) ∙ e) in
          go_right (path width x g F (k - length (shown x g E))) u.0 v (r x (k - length (shown x g E)) u.0 u.1) u.2

      -- A parallel, by the tests in order: both sides are done; the mask hides no more; the left can never move; the right cannot.
      module _ (s : SmallMoves (moves g E)) (t : SmallMoves (moves g F)) (l : Leads g E) (r : Leads g F) (x k : ℕ) (v : Move) (e : get_elem? (shown x g (Parallel Δ E F)) k ≡ some v) where
        abbrev y : ℕ
        y = bit_or x (mask_set Δ)

        abbrev general : List ℕ
        general = path_by (size width E) (path width 0 g E) (path width 0 g F) (locate (alone x (mask_set Δ)) (paired x (mask_set Δ)) (numbers g E) (numbers g F) k)

        abbrev in_turn : List ℕ
        in_turn = path_in_turn 1 (size width E) (length (shown x g E)) (path width x g E) (path width x g F) k

        by_right : (d : (done? E && done? F) ≡ false) (b : Bool) → idle F ≡ b → LeadsTo (Parallel Δ E F) (cond b (1 ∷ path width y g E k) general) v
        by_right d true h =
            let u = getElem?_unmap (left_move Δ F) (shown y g E) k v (sym (ap (λ z. get_elem? z k) (shown_idle_right x g Δ E F d s t h)) ∙ e) in
            go_left (path width y g E k) u.0 v (l y k u.0 u.1) u.2
        by_right d false h =
            lead_sides l r x v (locate (alone x (mask_set Δ)) (paired x (mask_set Δ)) (numbers g E) (numbers g F) k)
            (located x Δ E F (moves g E) (moves g F) s t k v (sym (ap (λ z. get_elem? z k) (shown_parallel x g Δ E F d s t)) ∙ e))

        by_left : (d : (done? E && done? F) ≡ false) (b : Bool) → idle E ≡ b → LeadsTo (Parallel Δ E F) (cond b (2 ∷ size width E ∷ path width y g F k) (cond (idle F) (1 ∷ path width y g E k) general)) v
        by_left d true h =
            let u = getElem?_unmap (right_move Δ E) (shown y g F) k v (sym (ap (λ z. get_elem? z k) (shown_idle_left x g Δ E F d s t h)) ∙ e) in
            go_right (path width y g F k) u.0 v (r y k u.0 u.1) u.2
        by_left d false h = by_right d (idle F) refl

        by_mask : (d : (done? E && done? F) ≡ false) (b : Bool) → has_all x (mask_set Δ) ≡ b
            → LeadsTo (Parallel Δ E F) (cond b in_turn (cond (idle E) (2 ∷ size width E ∷ path width y g F k) (cond (idle F) (1 ∷ path width y g E k) general))) v
        by_mask d true h = lead_turn l r x k v (ltb k (length (shown x g E))) refl (sym (ap (λ z. get_elem? z k) (shown_covered x g Δ E F d s t h)) ∙ e)
        by_mask d false h = by_left d (idle E) refl

        lead_parallel : (b : Bool) → (done? E && done? F) ≡ b
            → LeadsTo (Parallel Δ E F) (cond b (0 ∷ []) (cond (has_all x (mask_set Δ)) in_turn (cond (idle E) (2 ∷ size width E ∷ path width y g F k) (cond (idle F) (1 ∷ path width y g E k) general)))) v
        unfolding follow marked
        lead_parallel true d rest =
            (ap (λ (z : Move). reached z rest) (no_second (move internal Done) v k (sym (ap (λ z. get_elem? z k) (shown_both_done x g Δ E F d)) ∙ e)), refl)
        lead_parallel false d rest = by_mask d (has_all x (mask_set Δ)) refl rest

    lead_guard : (C : Cond) (E : Term) (b : Bool) → g C ≡ b → Leads g E → (x k : ℕ) (m : Move) → get_elem? (shown x g (Guard C E)) k ≡ some m → LeadsTo E (path width x g E k) m
    lead_guard C E true h l x k m e = l x k m (sym (ap (λ t. get_elem? t k) (shown_guard x g C E h)) ∙ e)
    lead_guard C E false h l x k m e = absurd (none-ne-some m (sym (ap (λ t. get_elem? t k) (shown_shut x g C E h)) ∙ e))

  small_moves : (g : Cond → Bool) (E : Term) → SmallActions E → SmallMoves (moves g E)
  small_moves g E s = record { small = λ i m e. move_action_small g E i m e s }

  one_shown : (b : Bool) (m n : Move) (k : ℕ) → get_elem? (cond b (m ∷ []) []) k ≡ some n → m ≡ n
  one_shown true m n zero e = some-injective m n e
  one_shown true m n (suc k) e = absurd (none-ne-some n e)
  one_shown false m n k e = absurd (none-ne-some n e)

  pub path_leads : (g : Cond → Bool) (E : Term) → SmallActions E → (x k : ℕ) (m : Move) → get_elem? (shown x g E) k ≡ some m → LeadsTo E (path width x g E k) m
  unfolding path follow marked shown moves
  path_leads g Done s x k m e rest = absurd (none-ne-some m e)
  path_leads g Internal s x k m e rest = (ap (λ (z : Move). reached z rest) (one_shown (shown? x (move internal Done)) (move internal Done) m k e), refl)
  path_leads g (Perform a) s x k m e rest = (ap (λ (z : Move). reached z rest) (one_shown (shown? x (move (visible a) Done)) (move (visible a) Done) m k e), refl)
  path_leads g (Sequence E F) s x k m e rest =
      lead_sequence g E F (done? E) refl (λ y i n h r. path_leads g E s.0 y i n h r) (λ y i n h r. path_leads g F s.1 y i n h r) x k m e rest
  path_leads g (Choice E F) s x k m e rest =
      lead_choice g E F (λ y i n h r. path_leads g E s.0 y i n h r) (λ y i n h r. path_leads g F s.1 y i n h r) x k m (ltb k (length (shown x g E))) refl
      (sym (ap (λ t. get_elem? t k) (shown_choice x g E F)) ∙ e) rest
  path_leads g (Star E) s x k m e rest = lead_star g E (λ y i n h r. path_leads g E s y i n h r) x k m (sym (ap (λ t. get_elem? t k) (shown_star x g E)) ∙ e) rest
  path_leads g (Parallel Δ E F) s x k m e rest =
      lead_parallel g Δ E F (small_moves g E s.0) (small_moves g F s.1) (λ y i n h r. path_leads g E s.0 y i n h r) (λ y i n h r. path_leads g F s.1 y i n h r) x k m e
      (done? E && done? F) refl rest
  path_leads g (Guard C E) s x k m e rest = lead_guard g C E (g C) refl (λ y i n h r. path_leads g E s y i n h r) x k m e rest

  -- Move k's.
  pub follow_path : (g : Cond → Bool) (E : Term) → SmallActions E → (k : ℕ) (m : Move) → get_elem? (moves g E) k ≡ some m → LeadsTo E (path width 0 g E k) m
  follow_path g E s k m e = path_leads g E s 0 k m (ap (λ t. get_elem? t k) (shown_all g E) ∙ e)

  -- ── the length of a path ──

  pick_length : (b : Bool) (l r : List ℕ) (n : ℕ) → length l ≤ n → length r ≤ n → length (pick b l r) ≤ n
  pick_length true l r n h k = h
  pick_length false l r n h k = k

  cond_length : (b : Bool) (l r : List ℕ) (n : ℕ) → length l ≤ n → length r ≤ n → length (cond b l r) ≤ n
  cond_length true l r n h k = h
  cond_length false l r n h k = k

  by_length : (l r : ℕ → List ℕ) (n m : ℕ) → ((i : ℕ) → length (l i) ≤ n) → ((j : ℕ) → length (r j) ≤ m) → (s : Sides) → length (path_by n l r s) ≤ 5 + n + m
  by_length l r n m h k (left_alone i) = omega (arith, h i)
  by_length l r n m h k (right_alone j) = omega (arith, k j)
  by_length l r n m h k (together i j) = omega (arith, h i, k j, length-append (l i) (r j))
  by_length l r n m h k nowhere = omega arith

  turn_length : (c n m k : ℕ) (l r : ℕ → List ℕ) (a b : ℕ) → 1 ≤ a → length (l k) ≤ a → length (r (k - m)) ≤ b → length (path_in_turn c n m l r k) ≤ 1 + a + b
  turn_length c n m k l r a b p h j = pick_length (ltb k m) (c ∷ l k) ((c + 1) ∷ n ∷ r (k - m)) (1 + a + b) (omega arith) (omega arith)

  pub path_length : (x : ℕ) (g : Cond → Bool) (E : Term) (k : ℕ) → length (path width x g E k) ≤ size width E
  unfolding path size
  path_length x g Done k = omega arith
  path_length x g Internal k = omega arith
  path_length x g (Perform a) k = omega arith
  path_length x g (Sequence E F) k = cond_length (done? E) (path width x g F k) (path width x g E k) _ (omega (arith, path_length x g F k)) (omega (arith, path_length x g E k))
  path_length x g (Choice E F) k =
      let h = turn_length 0 (size width E) (length (shown x g E)) k (path width x g E) (path width x g F) (size width E) (size width F) (size_pos width E) (path_length x g E k) (path_length x g F (k - length (shown x g E))) in
      omega (arith, h)
  path_length x g (Star E) k = pick_length (eqb k 0) (0 ∷ []) (1 ∷ path width x g E (k - 1)) _ (omega (arith, size_pos width E)) (omega (arith, path_length x g E (k - 1)))
  path_length x g (Parallel Δ E F) k =
      let h = turn_length 1 (size width E) (length (shown x g E)) k (path width x g E) (path width x g F) (size width E) (size width F) (size_pos width E) (path_length x g E k) (path_length x g F (k - length (shown x g E))) in
      let y : ℕ = bit_or x (mask_set Δ) in
      let b = by_length (path width 0 g E) (path width 0 g F) (size width E) (size width F) (λ i. path_length 0 g E i) (λ i. path_length 0 g F i) (locate (alone x (mask_set Δ)) (paired x (mask_set Δ)) (numbers g E) (numbers g F) k) in
      cond_length (done? E && done? F) (0 ∷ []) _ _ (omega arith)
      (cond_length (has_all x (mask_set Δ)) _ _ _ (omega (arith, h))
      (cond_length (idle E) (2 ∷ size width E ∷ path width y g F k) _ _ (omega (arith, path_length y g F k, size_pos width E))
      (cond_length (idle F) (1 ∷ path width y g E k) _ _ (omega (arith, path_length y g E k)) (omega (arith, b)))))
  path_length x g (Guard C E) k = omega (arith, path_length x g E k)
