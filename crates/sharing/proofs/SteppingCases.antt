-- A case for each way that a step of a shared term returns (document 01, "Moves, in order").
use mathlib.Core.Path.{◌≡◌, refl, sym, ap, ◌∙◌, subst}
use mathlib.Core.List.{List, [], ◌++◌, append-nil}
use mathlib.Core.Option.{some}
use Rattle.std.specs.Prelude.{Option, None}
use Prim.Native.Nat.{ℕ, ◌+◌, ◌-◌, ◌≤◌, ◌<◌}
use native.Mathlib.Omega.{arith}
use lib.ListN.{length, take, drop, get_elem?, length-append}
use lib.Seq.{slice, length-take-le, take-take, take-append_seam, drop-append_seam}
use Rattle.eb3.specs.Generic.PositionsLaws.{none_beyond}
use Rattle.eb3.specs.Scopes.{Scope}
use Rattle.eb3.specs.Moves.{Move, moves}
use Rattle.eb3.specs.Sizes.{size}
use Rattle.listing.specs.Listing.{holding}
use Rattle.paths.proofs.SeekLaws.{some_within}
use Rattle.sharing.specs.Shared.{Shared, term_of, shared_words, Stands}
use Rattle.sharing.specs.Walking.{Spot, spot_at}
use Rattle.sharing.specs.Finding.{Place, FoundRight, Found}
use Rattle.sharing.specs.Changing.{Changes, RoomFor, ChangedRight, Changed}
use Rattle.sharing.specs.declared.moved.Moved.{Moved}
use Rattle.sharing.specs.Stepping.{StepTaken, Stepped}
use Rattle.sharing.specs.Laws.Shared.{shared_some}
use Rattle.sharing.proofs.Spots.{same_spot, rest_no_place}
use Rattle.sharing.proofs.SteppingPlaces.{moves_here, place_room, place_taken}

-- No term that is there has a move k.
abbrev Never : List ℕ → List ℕ → ℕ → List ℕ → ℕ → ℕ → ℕ → Type 0
Never u d n M k paths numbers = (P : Scope) (S : Shared) → n ≤ length d → take n d ≡ shared_words S → Stands u P S → length u ≤ paths → length u ≤ numbers
    → (x : Move) → get_elem? (moves (holding M) (term_of S)) k ≡ some x → ⊥

never_stepped : {u d : List ℕ} {n : ℕ} {M : List ℕ} {k paths numbers room : ℕ} → Never u d n M k paths numbers → Stepped u d n M k paths numbers room d None
never_stepped h = record { same_length = refl; taken = λ P S a b c e f x g _ _. absurd (h P S a b c e f x g); not_offered = λ P S a b c e f g. (refl, refl) }

module _ (u d : List ℕ) (n : ℕ) (M s : List ℕ) (k numbers : ℕ) (entry exit : List ℕ) (r : Spot) (is : s ≡ take n d) (f : Found u s M k entry exit numbers r) where
  right : n ≤ length d → (P : Scope) (S : Shared) → take n d ≡ shared_words S → Stands u P S → length u ≤ length entry → length u ≤ numbers → (x : Move) → get_elem? (moves (holding M) (term_of S)) k ≡ some x
      → FoundRight u P M S [] k exit r
  right within P S words stands paths_enough numbers_enough x e =
      f.found P S [] (is ∙ words ∙ sym (append-nil (shared_words S))) stands paths_enough numbers_enough (some_within (moves (holding M) (term_of S)) k x e)

  -- No place was found.
  pub not_found : {room : ℕ} → ((a i : ℕ) → r ≡ spot_at a i → ⊥) → Stepped u d n M k (length entry) numbers room d None
  not_found h = never_stepped (λ P S a b c p q x e. h _ _ (right a P S b c p q x e).answered)

  -- ── a place was found: where `left` words are left, whose path begins at q ──

  module _ (left q : ℕ) (isr : r ≡ spot_at left q) where
    module _ (within : n ≤ length d) (P : Scope) (S : Shared) (words : take n d ≡ shared_words S) (stands : Stands u P S) (paths_enough : length u ≤ length entry) (numbers_enough : length u ≤ numbers)
        (x : Move) (e : get_elem? (moves (holding M) (term_of S)) k ≡ some x) where
      abbrev found_there : FoundRight u P M S [] k exit r
      found_there = right within P S words stands paths_enough numbers_enough x e

      abbrev place : Place u P M (drop found_there.q exit) S k
      place = found_there.place

      all_words : take n d ≡ place.before ++ (shared_words place.here ++ place.after)
      all_words = words ∙ place.words_here

      all_count : length place.before + (length (shared_words place.here) + length place.after) ≡ n
      all_count = omega (arith, ap length all_words, length-take-le n d within, length-append place.before (shared_words place.here ++ place.after), length-append (shared_words place.here) place.after)

      behind_count : length (shared_words place.here ++ (place.after ++ [])) ≡ length (shared_words place.here) + length place.after
      behind_count = omega (arith, length-append (shared_words place.here) (place.after ++ []), ap length (append-nil place.after))

      left_is : left ≡ length (shared_words place.here) + length place.after
      left_is = (same_spot (sym isr ∙ found_there.answered)).0 ∙ behind_count

      path_is : q ≡ found_there.q
      path_is = (same_spot (sym isr ∙ found_there.answered)).1

      -- The words before the place.
      front_is : n - left ≡ length place.before
      front_is = omega (arith, left_is, all_count)

      front_words : take (n - left) d ≡ place.before
      front_words =
          let z : length place.before ≤ n = omega (arith, all_count) in
          ap (λ i. take i d) front_is ∙ sym (take-take (length place.before) n d z) ∙ ap (take (length place.before)) all_words ∙ take-append_seam place.before (shared_words place.here ++ place.after)

      here_words : slice (n - left) n d ≡ shared_words place.here ++ place.after
      here_words = ap (λ i. slice i n d) front_is ∙ ap (drop (length place.before)) all_words ∙ drop-append_seam place.before (shared_words place.here ++ place.after)

      module _ {p mid d' mid' : List ℕ} {z : Option Moved} (isp : p ≡ drop q exit) (c : Changed u d n (n - left) p mid d' mid' z) (space : size P.edition.width x.successor ≤ length d) (room : size P.edition.width x.successor ≤ length mid) where
        step_right : StepTaken u P x d' z
        step_right =
            let h = moves_here place.moving in
            let o : drop found_there.q exit ≡ p = ap (λ i. drop i exit) (sym path_is) ∙ sym isp in
            let t : Changes u P p place.here h.made.action h.made.successor = subst (λ l. Changes u P l place.here h.made.action h.made.successor) o h.changes in
            let g : RoomFor P.edition.width h.made.successor (n - left) (length place.after) (length d) (length mid) =
            subst (λ i. RoomFor P.edition.width h.made.successor i (length place.after) (length d) (length mid)) (sym front_is) (place_room place x e space room) in
            place_taken place x e (subst (λ l. ChangedRight u P h.made.action h.made.successor l place.after d' z) front_words (c.right P place.here place.after h.made.action h.made.successor here_words t g))

    -- ── the ways of returning ──

    pub place_beyond : {room : ℕ} → n < left → Stepped u d n M k (length entry) numbers room d None
    place_beyond h = never_stepped (λ P S a b c p q x e. omega (arith, left_is a P S b c p q x e, all_count a P S b c p q x e))

    pub place_empty : {room : ℕ} → left ≡ 0 → Stepped u d n M k (length entry) numbers room d None
    place_empty h = never_stepped (λ P S a b c p q x e. omega (arith, left_is a P S b c p q x e, shared_some (right a P S b c p q x e).place.here))

    pub path_beyond : {room : ℕ} → length exit < q → Stepped u d n M k (length entry) numbers room d None
    path_beyond h = never_stepped (λ P S a b c p q x e. omega (arith, f.same_length, (f.spotted.place left _ isr).1))

    pub place_changed : {p mid d' mid' : List ℕ} {z : Option Moved} → p ≡ drop q exit → Changed u d n (n - left) p mid d' mid' z → Stepped u d n M k (length entry) numbers (length mid) d' z
    place_changed isp c = record {
      same_length = c.same_length;
      taken = λ P S a b st p q x e space room. step_right a P S b st p q x e isp c space room;
      not_offered = λ P S a b st p q e. rest_no_place (sym (f.none_found P S [] (is ∙ b ∙ sym (append-nil (shared_words S))) st p q (none_beyond (moves (holding M) (term_of S)) k e)) ∙ isr);
    }
