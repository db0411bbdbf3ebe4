-- A case for each way that finding a move's path and taking the move return (document 01, "Moves, in order"; "Operations").
use mathlib.Core.Path.{◌≡◌, refl, sym, ap, ◌∙◌, subst}
use mathlib.Core.Bool.{true}
use mathlib.Core.List.{List, [], ◌++◌, append-nil}
use mathlib.Core.Option.{Option as Maybe, none, some}
use Rattle.std.specs.Prelude.{Option, None, Some}
use Prim.Native.Nat.{ℕ, ◌*◌, ◌/◌, ◌≤◌, ◌<◌}
use Rattle.std.proofs.lemmas.Option.{none-some, same_Some}
use native.Mathlib.Omega.{arith}
use native.Mathlib.Decide.{dec_lt}
use lib.ListN.{length, drop, replicate, get_elem?, length-append, length-replicate}
use Rattle.eb3.specs.Generic.PositionsLaws.{none_beyond, beyond_none}
use Rattle.eb3.specs.Scopes.{Scope}
use Rattle.eb3.specs.Terms.{Term}
use Rattle.eb3.specs.Moves.{Move, moves}
use Rattle.eb3.specs.Sizes.{size}
use Rattle.eb3.specs.Spelling.{words}
use Rattle.eb3.specs.Bytes.{written}
use Rattle.eb3.proofs.Laws.Sizes.{moves_below_breadth}
use Rattle.actions.specs.Codes.{action_code}
use Rattle.listing.specs.Laws.Fits.{fits_length}
use Rattle.listing.specs.Listing.{holding}
use Rattle.listing.specs.Laws.Rooms.{room_below_breadth}
use Rattle.paths.specs.Paths.{path, Followed, follow, followed, marked}
use Rattle.paths.proofs.SeekLaws.{some_within}
use Rattle.paths.proofs.PathLaws.{follow_path}
use Rattle.derivation.specs.declared.arrays.Derivation.{Derivation}
use Rattle.derivation.specs.declared.arrays.Derivation.TheVariants.{At, Behind, NoRoom}
use Rattle.derivation.specs.Derived.{Roomed, move_count, Derived}
use Rattle.derivation.specs.Laws.Answers.{same_place, no_rest}
use Rattle.successors.specs.declared.Built.{Built}
use Rattle.successors.specs.Building.{built_words, Building, BuiltRight}
use Rattle.steps.specs.Counting.{Whole}
use Rattle.derivation.specs.Laws.Fits.{small_actions}
use Rattle.steps.specs.Taking.{place_in, PathFound, taken_as, built_over, SuccessorFits, Took}
use Rattle.steps.specs.declared.moving.Taken.{Taken}

-- ── an answer of a derivation ──

pub place_here : (i : ℕ) (d : Derivation) → d ≡ At i → Some i ≡ place_in d
place_here i d h = sym (ap place_in h)

pub place_none : (d : Derivation) → ((i : ℕ) → d ≡ At i → ⊥) → None ≡ place_in d
place_none (At i) h = absurd (h i refl)
place_none (Behind j left) h = refl
place_none NoRoom h = refl

roomed : (d : Derivation) → (d ≡ NoRoom → ⊥) → Roomed d
roomed (At i) h = tt
roomed (Behind j left) h = tt
roomed NoRoom h = h refl

module _ {s M : List ℕ} {k : ℕ} where
  -- ── the path ──

  -- Sought in room for n numbers.
  pub derived_in : {entry exit : List ℕ} {n : ℕ} {r : Derivation} → Derived s M k entry exit (length (replicate {A = ℕ} n 0)) r → Derived s M k entry exit n r
  derived_in {entry} {exit} {n} {r} d = subst (λ i. Derived s M k entry exit i r) (length-replicate {A = ℕ} n 0) d

  -- The place in an answer is that of the path, where there was room if the term is within the limits; trying before changes nothing but the array's words.
  placed_path : {entry mid exit : List ℕ} {n : ℕ} (r : Derivation) → length mid ≡ length entry → length exit ≡ length mid → Derived s M k mid exit n r
      → ((P : Scope) (E : Term) → Whole s P E → size P.edition.width E ≤ length entry → Roomed r) → PathFound s M k entry exit (place_in r)
  placed_path (At i) e f p enough = record {
    same_length = f ∙ e;
    place_bounded = λ at z. omega (arith, e, same_Some i at z, p.placed.place i refl);
    found = λ P E w b l. let q = p.found P E [] w.there tt l in (q.0, ap Some (same_place q.1), q.2);
    none_found = λ P E w b l. no_rest (p.none_found P E [] w.there tt l);
  }
  placed_path (Behind j left) e f p enough = record {
    same_length = f ∙ e;
    place_bounded = λ at z. absurd (none-some at z);
    found = λ P E w b l. no_rest (sym (p.found P E [] w.there tt l).1);
    none_found = λ P E w b l. refl;
  }
  placed_path NoRoom e f p enough = record {
    same_length = f ∙ e;
    place_bounded = λ at z. absurd (none-some at z);
    found = λ P E w b l. absurd (enough P E w b);
    none_found = λ P E w b l. refl;
  }

  module _ {entry mid exit : List ℕ} {r : Derivation} {o : Option ℕ} (e : length mid ≡ length entry) (f : length exit ≡ length mid) (q : o ≡ place_in r) where
    -- An answer that says that there was room is right.
    pub answered_path : {n : ℕ} → Derived s M k mid exit n r → (r ≡ NoRoom → ⊥) → PathFound s M k entry exit o
    answered_path p h = subst (PathFound s M k entry exit) (sym q) (placed_path r e f p (λ P E w b. roomed r h))

    -- A term within the limit takes no more room than there is at most.
    pub most_path : Derived s M k mid exit 131072 r → PathFound s M k entry exit o
    most_path p = subst (PathFound s M k entry exit) (sym q) (placed_path r e f p (λ P E w b. p.has_room P E [] w.there (omega arith) (omega (arith, w.narrow, room_below_breadth (holding M) E))))

-- ── the move ──

-- There is no move k.
pub nothing_taken : (width : ℕ) (M : List ℕ) (k : ℕ) (E : Term) (B : List ℕ) → move_count M E ≤ k → Took width (get_elem? (moves (holding M) E) k) B B None
unfolding taken_as built_over
nothing_taken width M k E B h = subst (λ o. Took width o B B None) (sym (beyond_none (moves (holding M) E) k h)) (record { answer = refl; buffer = refl })

-- A path that was not found: the buffer is as it was.
pub nowhere_taken : {s M : List ℕ} {k : ℕ} {entry exit : List ℕ} → PathFound s M k entry exit None → {o : Option Taken} → o ≡ None → (B : List ℕ)
    → (P : Scope) (E : Term) → Whole s P E → size P.edition.width E ≤ length entry → SuccessorFits P.edition.width (get_elem? (moves (holding M) E) k) B → Took P.edition.width (get_elem? (moves (holding M) E) k) B B o
nowhere_taken {s} {M} {k} {entry} {exit} f {o} e B P E w b _ = subst (Took P.edition.width (get_elem? (moves (holding M) E) k) B B) (sym e) (nothing_taken P.edition.width M k E B (below (dec_lt k (move_count M E))))
  where
    below : Dec (k < move_count M E) → move_count M E ≤ k
    below (yes l) = let q = f.found P E w b l in absurd (none-some q.0 q.1)
    below (no l) = omega arith

-- A term within the limits has at most 65,535 moves, so there is no move k.
pub too_many_taken : {s : List ℕ} (M : List ℕ) (k : ℕ) → 65535 < k → (n : ℕ) (B : List ℕ)
    → (P : Scope) (E : Term) → Whole s P E → size P.edition.width E ≤ n → SuccessorFits P.edition.width (get_elem? (moves (holding M) E) k) B → Took P.edition.width (get_elem? (moves (holding M) E) k) B B None
too_many_taken M k h n B P E w _ _ = nothing_taken P.edition.width M k E B (omega (arith, w.narrow, moves_below_breadth (holding M) E))

-- A term has no more words than the list of words that holds it.
pub size_below : {s : List ℕ} {n : ℕ} → length s ≤ n → (P : Scope) (E : Term) → Whole s P E → size P.edition.width E ≤ n
size_below {s} h P E w =
    let spelled : length s ≡ length (words P.edition.width E ++ []) = ap length w.there.spelled in
    omega (arith, spelled, length-append (words P.edition.width E) [], fits_length P E w.there.fits)

-- The answer where a successor is built.
abbrev pub made : Built → Option Taken
made b = Some (record { action = b.action; size = b.words })

-- The buffer where a move's path leads to it.
module _ (width : ℕ) (p : List ℕ) (E : Term) (x : Move) (leads : follow E p ≡ followed x.action x.successor []) where
  same_words : built_words width E p ≡ words width x.successor
  same_words = ap (λ (y : Followed). words width y.successor) leads

  built_taken : {B B' : List ℕ} {b : Built} → BuiltRight width E p B B' b → Took width (some x) B B' (made b)
  unfolding taken_as built_over
  built_taken {B} {B'} {b} q = record {
    answer = λ i. Some (record { action = (q.action ∙ ap (λ (y : Followed). action_code y.action) leads) i; size = (q.size ∙ ap length same_words) i });
    buffer = q.written_there ∙ ap (λ ws. written ws B) same_words;
  }

  fitting : (B : List ℕ) → length (words width x.successor) ≤ length B / 2 → 2 * length (built_words width E p) ≤ length B
  fitting B h = omega (arith, ap length same_words)

-- A path that was found, and the successor built along it.
module _ {s M : List ℕ} {k : ℕ} {entry exit : List ℕ} {r : ℕ} (f : PathFound s M k entry exit (Some r)) {p B B' : List ℕ} {b : Built} (part : p ≡ drop r exit) (q : Building s p B B' b) where
  leads_to : (P : Scope) (E : Term) → Whole s P E → size P.edition.width E ≤ length entry → (x : Move) → get_elem? (moves (holding M) E) k ≡ some x → k < move_count M E
      → (follow E p ≡ followed x.action x.successor []) × (marked P.edition.width E p ≡ true)
  leads_to P E w b x e l =
      let q : p ≡ path P.edition.width 0 (holding M) E k ++ [] = part ∙ ap (λ i. drop i exit) (same_Some r _ (f.found P E w b l).1) ∙ (f.found P E w b l).2 ∙ sym (append-nil (path P.edition.width 0 (holding M) E k)) in
      let h = follow_path P.edition.width (holding M) E (small_actions P E w.there.fits) k x e [] in
      (ap (follow E) q ∙ h.0, ap (marked P.edition.width E) q ∙ h.1)

  taken_at : (P : Scope) (E : Term) → Whole s P E → size P.edition.width E ≤ length entry → (o : Maybe Move) → get_elem? (moves (holding M) E) k ≡ o → SuccessorFits P.edition.width o B → Took P.edition.width o B B' (made b)
  taken_at P E w g none e room = absurd (none-some r (sym (f.none_found P E w g (none_beyond (moves (holding M) E) k e))))
  taken_at P E w g (some x) e room =
      let leads = leads_to P E w g x e (some_within (moves (holding M) E) k x e) in
      built_taken P.edition.width p E x leads.0 (q.right P E w.there leads.1 (q.has_room P E w.there leads.1 (fitting P.edition.width p E x leads.0 B room)))

  pub there_taken : (P : Scope) (E : Term) → Whole s P E → size P.edition.width E ≤ length entry → SuccessorFits P.edition.width (get_elem? (moves (holding M) E) k) B
      → Took P.edition.width (get_elem? (moves (holding M) E) k) B B' (made b)
  there_taken P E w g room = taken_at P E w g (get_elem? (moves (holding M) E) k) refl room
