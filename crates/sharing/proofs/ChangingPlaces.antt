-- The words at a place of a shared term and those after it; each way of changing the place (document 01, "Moves, in order").
use mathlib.Core.Path.{◌≡◌, refl, sym, ap, ◌∙◌, subst}
use mathlib.Core.Bool.{true}
use mathlib.Core.List.{List, [], ◌∷◌, ◌++◌}
use Prim.Native.Nat.{ℕ, ◌+◌, ◌-◌, ◌≤◌, ◌<◌}
use native.Mathlib.Omega.{arith}
use Rattle.std.specs.Prelude.{Option}
use lib.ListN.{length, take, drop, get_or, length-append}
use lib.Seq.{slice, length-slice, get_or-take, get_or-drop, drop-drop, drop-append_seam}
use Rattle.eb3.specs.Scopes.{Scope}
use Rattle.eb3.specs.Terms.{Term, Done, Action, internal}
use Rattle.paths.specs.Paths.{follow, followed, marked}
use Rattle.std.specs.Prelude.{Option}
use Rattle.sharing.specs.Shared.{Shared, part_word, shared_words, PartAt}
use Rattle.sharing.specs.declared.moved.Moved.{Moved}
use Rattle.sharing.specs.Changing.{Changes, part, resumed, joined, RoomFor, ChangedRight, Changed, Joined, PartChanged}

module _ (d : List ℕ) (n i : ℕ) (within : n ≤ length d) (here : i < n) (ws after : List ℕ) (e : slice i n d ≡ ws ++ after) where
  pub words_fill : i + (length ws + length after) ≡ n
  words_fill = omega (arith, ap length e, length-slice i n d within, length-append ws after)

  pub words_behind : slice (i + length ws) n d ≡ after
  words_behind = sym (drop-drop (length ws) i (take n d)) ∙ ap (drop (length ws)) e ∙ drop-append_seam ws after

  pub word_at : (j : ℕ) → i + j < n → get_or d (i + j) 0 ≡ get_or (ws ++ after) j 0
  word_at j h = sym (get_or-take n d (i + j) 0 h) ∙ sym (get_or-drop i (take n d) j 0) ∙ ap (λ l. get_or l j 0) e

  -- The word that the place begins with.
  pub word_here : get_or d i 0 ≡ get_or (ws ++ after) 0 0
  word_here =
      let z : i + 0 ≡ i = omega arith in
      ap (λ j. get_or d j 0) (sym z) ∙ word_at 0 (omega arith)

-- `RoomFor` of an equal term and an equal number of words.
room_as : {width : ℕ} {T T' : Term} {i m m' space room : ℕ} → T' ≡ T → m' ≡ m → RoomFor width T i m space room → RoomFor width T' i m' space room
room_as {width} {T} {T'} {i} {m} {m'} {space} {room} t e h = subst (λ k. RoomFor width T' i k space room) (sym e) (subst (λ z. RoomFor width z i m space room) (sym t) h)

module _ (u d : List ℕ) (n i : ℕ) (p : List ℕ) (within : n ≤ length d) (here : i < n) (f : get_or d i 0 ≡ 22) where
  -- Where the place begins with a sequence's code, its left operand is done and the part after done changes.
  then_words : (P : Scope) (z : Shared) (after : List ℕ) (ρ : Action) (T : Term) → slice i n d ≡ shared_words z ++ after → Changes u P p z ρ T
      → (l : ℕ) × (E : Term) × (slice i n d ≡ (22 ∷ part_word l ∷ 30 ∷ []) ++ after) × PartAt u P l E × (follow E p ≡ followed ρ T []) × (marked P.edition.width E p ≡ true)
  unfolding shared_words
  then_words P z after ρ T e (part l E q a b c) =
      let s : slice i n d ≡ (part_word l ∷ []) ++ after = e ∙ ap (λ y. shared_words y ++ after) q in
      absurd (omega (arith, f, word_here d n i within here (part_word l ∷ []) after s))
  then_words P z after ρ T e (resumed l E q a b c) = (l, E, e ∙ ap (λ y. shared_words y ++ after) q, a, b, c)
  then_words P z after ρ T e (joined q a b) =
      let s : slice i n d ≡ (25 ∷ 30 ∷ 30 ∷ []) ++ after = e ∙ ap (λ y. shared_words y ++ after) q in
      absurd (omega (arith, f, word_here d n i within here (25 ∷ 30 ∷ 30 ∷ []) after s))

-- The words end before the third word of a sequence's place, so there is no such place.
pub then_short : {u d : List ℕ} {n i : ℕ} {p mid : List ℕ} {r : Option Moved} → n ≤ length d → i < n → get_or d i 0 ≡ 22 → n < i + 3 → Changed u d n i p mid d mid r
then_short {u} {d} {n} {i} {p} within here f g = record {
  same_length = refl;
  mid_same_length = refl;
  right = λ P z after ρ T e c room.
      let t = then_words u d n i p within here f P z after ρ T e c in
      absurd (omega (arith, words_fill d n i within here (22 ∷ part_word t.0 ∷ 30 ∷ []) after t.2));
}

module _ {u d : List ℕ} {n i : ℕ} {p mid d' mid' : List ℕ} {r : Option Moved} (within : n ≤ length d) (here : i < n) where
  -- A part's successor replaces the words ws.
  by_part : {e w : ℕ} → PartChanged u d n i e w p mid d' mid' r → (P : Scope) (l : ℕ) (E : Term) (ρ : Action) (T : Term) (ws after : List ℕ) → slice i n d ≡ ws ++ after → e ≡ i + length ws
      → w ≡ part_word l → PartAt u P l E → follow E p ≡ followed ρ T [] → marked P.edition.width E p ≡ true → RoomFor P.edition.width T i (length after) (length d) (length mid) → ChangedRight u P ρ T (take i d) after d' r
  by_part {e} {w} h P l E ρ T ws after s f g a b c room =
      let m : n - e ≡ length after = omega (arith, f, words_fill d n i within here ws after s) in
      let q : slice e n d ≡ after = ap (λ k. slice k n d) f ∙ words_behind d n i within here ws after s in
      subst (λ z. ChangedRight u P ρ T (take i d) z d' r) q (h.right P l E ρ T g a b c (room_as refl m room))

  -- The first word is none of the codes 22 and 25, so it is a part's.
  pub part_changed : {w : ℕ} → w ≡ get_or d i 0 → (w ≡ 25 → ⊥) → (w ≡ 22 → ⊥) → PartChanged u d n i (i + 1) w p mid d' mid' r → Changed u d n i p mid d' mid' r
  unfolding shared_words
  part_changed {w} f no_beside no_then h = record { same_length = h.same_length; mid_same_length = h.mid_same_length; right = go }
    where
      go : (P : Scope) (z : Shared) (after : List ℕ) (ρ : Action) (T : Term) → slice i n d ≡ shared_words z ++ after → Changes u P p z ρ T
          → RoomFor P.edition.width T i (length after) (length d) (length mid) → ChangedRight u P ρ T (take i d) after d' r
      go P z after ρ T e (part l E q a b c) room =
          let s : slice i n d ≡ (part_word l ∷ []) ++ after = e ∙ ap (λ y. shared_words y ++ after) q in
          by_part h P l E ρ T (part_word l ∷ []) after s refl (f ∙ word_here d n i within here (part_word l ∷ []) after s) a b c room
      go P z after ρ T e (resumed l E q a b c) room =
          let s : slice i n d ≡ (22 ∷ part_word l ∷ 30 ∷ []) ++ after = e ∙ ap (λ y. shared_words y ++ after) q in
          absurd (no_then (f ∙ word_here d n i within here (22 ∷ part_word l ∷ 30 ∷ []) after s))
      go P z after ρ T e (joined q a b) room =
          let s : slice i n d ≡ (25 ∷ 30 ∷ 30 ∷ []) ++ after = e ∙ ap (λ y. shared_words y ++ after) q in
          absurd (no_beside (f ∙ word_here d n i within here (25 ∷ 30 ∷ 30 ∷ []) after s))

  pub then_changed : {w : ℕ} → get_or d i 0 ≡ 22 → w ≡ get_or d (i + 1) 0 → PartChanged u d n i (i + 3) w p mid d' mid' r → Changed u d n i p mid d' mid' r
  then_changed {w} f g h = record {
    same_length = h.same_length;
    mid_same_length = h.mid_same_length;
    right = λ P z after ρ T e c room.
        let t = then_words u d n i p within here f P z after ρ T e c in
        let ws : List ℕ = 22 ∷ part_word t.0 ∷ 30 ∷ [] in
        by_part h P t.0 t.1 ρ T ws after t.2 refl (g ∙ word_at d n i within here ws after t.2 1 (omega (arith, words_fill d n i within here ws after t.2))) t.3 t.4 t.5 room;
  }

  pub join_changed : get_or d i 0 ≡ 25 → Joined d n i mid d' mid' r → Changed u d n i p mid d' mid' r
  unfolding shared_words
  join_changed f h = record { same_length = h.same_length; mid_same_length = h.mid_same_length; right = go }
    where
      go : (P : Scope) (z : Shared) (after : List ℕ) (ρ : Action) (T : Term) → slice i n d ≡ shared_words z ++ after → Changes u P p z ρ T
          → RoomFor P.edition.width T i (length after) (length d) (length mid) → ChangedRight u P ρ T (take i d) after d' r
      go P z after ρ T e (part l E q a b c) room =
          let s : slice i n d ≡ (part_word l ∷ []) ++ after = e ∙ ap (λ y. shared_words y ++ after) q in
          absurd (omega (arith, f, word_here d n i within here (part_word l ∷ []) after s))
      go P z after ρ T e (resumed l E q a b c) room =
          let s : slice i n d ≡ (22 ∷ part_word l ∷ 30 ∷ []) ++ after = e ∙ ap (λ y. shared_words y ++ after) q in
          absurd (omega (arith, f, word_here d n i within here (22 ∷ part_word l ∷ 30 ∷ []) after s))
      go P z after ρ T e (joined q a b) room =
          let s : slice i n d ≡ (25 ∷ 30 ∷ 30 ∷ []) ++ after = e ∙ ap (λ y. shared_words y ++ after) q in
          let fill : i + (3 + length after) ≡ n = words_fill d n i within here (25 ∷ 30 ∷ 30 ∷ []) after s in
          let m : n - (i + 3) ≡ length after = omega arith in
          let right = h.right u P (omega arith) (room_as (sym b) m room) in
          subst (λ α. ChangedRight u P α T (take i d) after d' r) (sym a)
          (subst (λ X. ChangedRight u P internal X (take i d) after d' r) (sym b)
          (subst (λ y. ChangedRight u P internal Done (take i d) y d' r) (words_behind d n i within here (25 ∷ 30 ∷ 30 ∷ []) after s) right))
