-- The successor of a part, written into one array and put in its place in another (document 01, "Moves, in order").
use mathlib.Core.Path.{◌≡◌, refl, sym, ap, ◌∙◌, subst}
use mathlib.Core.Bool.{true}
use mathlib.Core.List.{List, [], ◌∷◌, ◌++◌}
use Prim.Native.Nat.{ℕ, ◌+◌, ◌-◌, ◌≤◌, ◌<◌}
use native.Mathlib.Omega.{arith}
use Rattle.std.specs.Prelude.{Option, None, Some}
use Rattle.std.proofs.lemmas.Option.{none-some}
use lib.ListN.{length, take, drop, set, length-append, length-set}
use lib.Seq.{slice, length-slice, length-take-le, take-append_seam, take-suc-set}
use Rattle.eb3.specs.Scopes.{Scope}
use Rattle.eb3.specs.Terms.{Term, Action}
use Rattle.eb3.specs.Sizes.{size}
use Rattle.words.specs.Checking.{last_of}
use Rattle.words.specs.Laws.Checking.{last_length}
use Rattle.listing.specs.Listing.{TermAt}
use Rattle.actions.specs.Codes.{action_code}
use Rattle.paths.specs.Paths.{Followed, follow, followed, marked}
use Rattle.sharing.specs.Shared.{Shared, Ended, term_of, part_word, shared_words, PartAt}
use Rattle.sharing.specs.Beginning.{Reached, reached, put_at, BeganRight, Beginning}
use Rattle.sharing.specs.Splicing.{Spliced}
use Rattle.sharing.proofs.BeginningCodes.{same_at, same_action}
use Rattle.sharing.specs.declared.moved.Moved.{Moved}
use Rattle.sharing.specs.Changing.{RoomFor, ChangedRight, Joined, PartChanged}

-- The first words of an array into which others were put.
pub put_front : (ws entry exit : List ℕ) → exit ≡ put_at 0 ws entry → take (length ws) exit ≡ ws
put_front ws entry exit e = ap (take (length ws)) e ∙ take-append_seam ws (drop (0 + length ws) entry)

-- ── the words put in their place ──

module _ {d mid : List ℕ} {n i e k : ℕ} {d' mid' : List ℕ} {r : ℕ} (within : n ≤ length d) (ie : i ≤ e) (en : e ≤ n) (s : Spliced d mid n i e k d' mid' (Some r)) where
  module _ (X : Shared) (is : k ≡ length (shared_words X)) (put : take (length (shared_words X)) mid ≡ shared_words X) (whole : i + (length (shared_words X) + (n - e)) ≤ length d)
      (moved : length (shared_words X) + (n - e) ≤ length mid) where
    abbrev all : List ℕ
    all = take i d ++ (shared_words X ++ slice e n d)

    spliced : (r ≡ i + (k + (n - e))) × (take r d' ≡ take i d ++ (take k mid ++ slice e n d))
    spliced = s.made ie en within (omega (arith, is)) (omega (arith, is))

    all_length : length all ≡ i + (length (shared_words X) + (n - e))
    all_length = omega (arith, length-append (take i d) (shared_words X ++ slice e n d), length-append (shared_words X) (slice e n d), length-take-le i d (omega arith), length-slice e n d within)

    pub splice_length : r ≡ length all
    splice_length = omega (arith, spliced.0, all_length, is)

    pub splice_held : take (length all) d' ≡ all
    splice_held = ap (λ m. take m d') (sym splice_length) ∙ spliced.1 ∙ ap (λ m. take i d ++ (take m mid ++ slice e n d)) is ∙ ap (λ l. take i d ++ (l ++ slice e n d)) put

-- ── done ──

done_put : (mid : List ℕ) → (length mid ≡ 0 → ⊥) → take 1 (set mid 0 30) ≡ 30 ∷ []
done_put mid h = take-suc-set mid 0 30 (omega arith)

pub join_put : {d : List ℕ} {n i : ℕ} {mid d' mid' : List ℕ} {x : Moved} → n ≤ length d → (length mid ≡ 0 → ⊥) → x.action ≡ 0 → Spliced d (set mid 0 30) n i (i + 3) 1 d' mid' (Some x.words)
    → Joined d n i mid d' mid' (Some x)
unfolding shared_words term_of action_code
join_put {d} {n} {i} {mid} {d'} {mid'} {x} within some a s = record {
  same_length = s.same_length;
  mid_same_length = s.mid_same_length ∙ length-set mid 0 30;
  right = λ u P h room.
      let whole : i + (1 + (n - (i + 3))) ≤ length d = room.whole Ended refl in
      let moved : 1 + (n - (i + 3)) ≤ length (set mid 0 30) = omega (arith, room.moved Ended refl, length-set mid 0 30) in
      let front : i ≤ i + 3 = omega arith in
      record {
        shared = Ended;
        stands = tt;
        is_successor = refl;
        held = splice_held within front h s Ended refl (done_put mid some) whole moved;
        moved = x;
        answered = refl;
        words_are = splice_length within front h s Ended refl (done_put mid some) whole moved;
        action_is = a;
      };
}

-- There is always room.
pub join_unplaced : {d : List ℕ} {n i : ℕ} {mid d' mid' : List ℕ} {z : Option Moved} → n ≤ length d → i + 3 ≤ n → (length mid ≡ 0 → ⊥) → Spliced d (set mid 0 30) n i (i + 3) 1 d' mid' None
    → Joined d n i mid d' mid' z
unfolding shared_words term_of
join_unplaced {mid = mid} within enough some s = record {
  same_length = s.same_length;
  mid_same_length = s.mid_same_length ∙ length-set mid 0 30;
  right = λ u P h room. absurd (s.made (omega arith) h within (room.whole Ended refl) (omega (arith, room.moved Ended refl, length-set mid 0 30)));
}

-- The words end before the parallel's three words do, or the scratch array has no room.
pub join_short : {d : List ℕ} {n i : ℕ} {mid : List ℕ} {r : Option Moved} → n < i + 3 → Joined d n i mid d mid r
join_short h = record { same_length = refl; mid_same_length = refl; right = λ u P g room. absurd (omega arith) }

pub join_roomless : {d : List ℕ} {n i : ℕ} {mid : List ℕ} {r : Option Moved} → length mid ≡ 0 → Joined d n i mid d mid r
unfolding shared_words term_of
join_roomless h = record { same_length = refl; mid_same_length = refl; right = λ u P g room. absurd (omega (arith, room.moved Ended refl)) }

-- ── a part ──

module _ (d : List ℕ) {u : List ℕ} {n i e w : ℕ} {p mid mid1 s : List ℕ} (within : n ≤ length d) (ie : i ≤ e) (en : e ≤ n) (short_u : length u ≤ 65503) (short_p : length p ≤ 65535) (is : s ≡ last_of (w - 32) u) where
  module _ (P : Scope) (l : ℕ) (E : Term) (ρ : Action) (T : Term) (g : w ≡ part_word l) (a : PartAt u P l E) (f : follow E p ≡ followed ρ T []) (m : marked P.edition.width E p ≡ true)
      (room : RoomFor P.edition.width T i (n - e) (length d) (length mid)) where
    -- The part's successor was written.
    begun : {o : Option Reached} → Beginning s p 0 mid mid1 o → BeganRight u P (follow E p) 0 mid mid1 o
    begun b =
        let z : w - 32 ≡ l = omega arith in
        let there : s ≡ last_of l u = is ∙ ap (λ j. last_of j u) z in
        let many : length s ≡ l = ap length there ∙ last_length l u a.within in
        let fits : 0 + size P.edition.width (follow E p).successor ≤ length mid = omega (arith, ap (λ (y : Followed). size P.edition.width y.successor) f, room.spelled) in
        b.right u P E a.rest short_u (omega (arith, many, a.within)) (there ∙ ap (λ j. last_of j u) (sym many)) (subst (λ z. TermAt z P E a.rest) (sym there) a.there) a.unmasked m short_p fits

    module _ {at left k : ℕ} (b : Beginning s p 0 mid mid1 (Some (reached at left k))) where
      abbrev X : Shared
      X = (begun b).shared

      is_X : term_of X ≡ T
      is_X = (begun b).is_successor ∙ ap (λ (y : Followed). y.successor) f

      count : at ≡ length (shared_words X)
      count = omega (arith, same_at (begun b).answered)

      put : take (length (shared_words X)) mid1 ≡ shared_words X
      put = put_front (shared_words X) mid mid1 (begun b).written

      moved : length (shared_words X) + (n - e) ≤ length mid1
      moved = omega (arith, room.moved X is_X, b.same_length)

      -- There is always room.
      roomy : {d' mid2 : List ℕ} → Spliced d mid1 n i e at d' mid2 None → ⊥
      roomy c = c.made ie en within (omega (arith, count, room.whole X is_X)) (omega (arith, count, moved))

      part_right : {d' mid2 : List ℕ} {x : Moved} → Spliced d mid1 n i e at d' mid2 (Some x.words) → x.action ≡ k → ChangedRight u P ρ T (take i d) (slice e n d) d' (Some x)
      part_right {x = x} c is_k = record {
        shared = X;
        stands = (begun b).stands;
        is_successor = is_X;
        held = splice_held within ie en c X count put (room.whole X is_X) moved;
        moved = x;
        answered = refl;
        words_are = splice_length within ie en c X count put (room.whole X is_X) moved;
        action_is = is_k ∙ (same_action (begun b).answered ∙ ap (λ (y : Followed). action_code y.action) f);
      }

  -- No successor was written.
  pub part_lost : {mid2 : List ℕ} {z : Option Moved} → Beginning s p 0 mid mid1 None → mid2 ≡ mid1 → PartChanged u d n i e w p mid d mid2 z
  part_lost b same = record { same_length = refl; mid_same_length = ap length same ∙ b.same_length; right = λ P l E ρ T g a f m room. absurd (none-some _ (begun P l E ρ T g a f m room b).answered) }

  module _ {d' mid2 : List ℕ} where
    pub part_unplaced : {z : Option Moved} (at left k : ℕ) → Beginning s p 0 mid mid1 (Some (reached at left k)) → Spliced d mid1 n i e at d' mid2 None → PartChanged u d n i e w p mid d' mid2 z
    part_unplaced at left k b c = record {
      same_length = c.same_length;
      mid_same_length = c.mid_same_length ∙ b.same_length;
      right = λ P l E ρ T g a f m room. absurd (roomy P l E ρ T g a f m room b c);
    }

    pub part_written : {x : Moved} (at left k : ℕ) → Beginning s p 0 mid mid1 (Some (reached at left k)) → Spliced d mid1 n i e at d' mid2 (Some x.words) → x.action ≡ k
        → PartChanged u d n i e w p mid d' mid2 (Some x)
    part_written at left k b c is_k = record {
      same_length = c.same_length;
      mid_same_length = c.mid_same_length ∙ b.same_length;
      right = λ P l E ρ T g a f m room. part_right P l E ρ T g a f m room b c is_k;
    }
