-- Where a move of a shared term was found: the numbers in the answer, the words there, and the move that is made there (document 01, "Moves, in order").
use mathlib.Core.Path.{◌≡◌, refl, sym, ap, ◌∙◌}
use mathlib.Core.Bool.{true}
use mathlib.Core.List.{List, [], ◌∷◌, ◌++◌, append-nil}
use mathlib.Core.Option.{some, some-injective}
use Rattle.std.specs.Prelude.{Option}
use Prim.Native.Nat.{ℕ, zero, suc, ◌+◌, ◌≤◌, ◌<◌}
use native.Mathlib.Omega.{arith}
use lib.ListN.{length, take, get_elem?, length-append}
use Rattle.eb3.specs.Scopes.{Scope}
use Rattle.eb3.specs.Terms.{Term, Done, internal, done?}
use Rattle.eb3.specs.Moves.{Move, move, moves}
use Rattle.eb3.specs.Sizes.{size}
use Rattle.actions.specs.Codes.{action_code}
use Rattle.listing.specs.Listing.{holding}
use Rattle.paths.specs.Paths.{path, follow, followed, marked}
use Rattle.paths.proofs.PathLaws.{follow_path}
use Rattle.derivation.specs.Laws.Fits.{small_actions}
use Rattle.sharing.specs.Shared.{Shared, Part, term_of, shared_words, PartAt}
use Rattle.sharing.specs.Laws.Shared.{shared_short}
use Rattle.sharing.specs.Finding.{Moving, part, resumed, joined, Place}
use Rattle.sharing.specs.Changing.{Changes, RoomFor, ChangedRight}
use Rattle.sharing.specs.Changing as changing
use Rattle.sharing.specs.declared.moved.Moved.{Moved}
use Rattle.sharing.specs.Stepping.{StepTaken}

entry_within : (l : List Move) (k : ℕ) → k < length l → (x : Move) × (get_elem? l k ≡ some x)
entry_within [] k h = absurd (omega arith)
entry_within (y ∷ l) zero h = (y, refl)
entry_within (y ∷ l) (suc k) h = entry_within l k (omega arith)

-- ── the move that is made at the place ──

-- Move j of what is there, and that it changes so.
pub record MovesHere (u : List ℕ) (P : Scope) (M p : List ℕ) (here : Shared) (j : ℕ) : Type 0 where
  pub made : Move
  pub entry : get_elem? (moves (holding M) (term_of here)) j ≡ some made
  pub changes : Changes u P p here made.action made.successor

leads : {u : List ℕ} {P : Scope} {p : List ℕ} (M : List ℕ) (l : ℕ) (E : Term) (j : ℕ) → PartAt u P l E → p ≡ path P.edition.width 0 (holding M) E j → (x : Move) → get_elem? (moves (holding M) E) j ≡ some x
    → (follow E p ≡ followed x.action x.successor []) × (marked P.edition.width E p ≡ true)
leads {u} {P} {p} M l E j a q x e =
    let t : p ≡ path P.edition.width 0 (holding M) E j ++ [] = q ∙ sym (append-nil (path P.edition.width 0 (holding M) E j)) in
    let h = follow_path P.edition.width (holding M) E (small_actions P E a.there.fits) j x e [] in
    (ap (follow E) t ∙ h.0, ap (marked P.edition.width E) t ∙ h.1)

module _ {u : List ℕ} {P : Scope} {M p : List ℕ} where
  pub moves_here : {here : Shared} {j : ℕ} → Moving u P M p here j → MovesHere u P M p here j
  unfolding term_of moves done?
  moves_here {here} {j} (part l E q a b c) =
      let x = entry_within (moves (holding M) E) j b in
      let h = leads M l E j a c x.0 x.1 in
      record { made = x.0; entry = ap (λ z. get_elem? (moves (holding M) (term_of z)) j) q ∙ x.1; changes = changing.part l E q a h.0 h.1 }
  moves_here {here} {j} (resumed l E q a b c) =
      let x = entry_within (moves (holding M) E) j b in
      let h = leads M l E j a c x.0 x.1 in
      record { made = x.0; entry = ap (λ z. get_elem? (moves (holding M) (term_of z)) j) q ∙ x.1; changes = changing.resumed l E q a h.0 h.1 }
  moves_here {here} {j} (joined q z) = record {
    made = move internal Done;
    entry = ap (λ S. get_elem? (moves (holding M) (term_of S)) j) q ∙ ap (get_elem? (move internal Done ∷ [])) z;
    changes = changing.joined q refl refl;
  }

-- ── the place ──

module _ {u : List ℕ} {P : Scope} {M p : List ℕ} {S : Shared} {k : ℕ} (a : Place u P M p S k) (x : Move) (e : get_elem? (moves (holding M) (term_of S)) k ≡ some x) where
  abbrev made_here : MovesHere u P M p a.here a.j
  made_here = moves_here a.moving

  -- The move of the whole, where X is the successor of what is there.
  whole_move : (X : Shared) → term_of X ≡ made_here.made.successor → x ≡ move made_here.made.action (term_of (a.around X))
  whole_move X h = some-injective x _ (sym e ∙ a.move_here X made_here.made made_here.entry (sym h))

  same_action : (X : Shared) → term_of X ≡ made_here.made.successor → made_here.made.action ≡ x.action
  same_action X h = sym (ap (λ (y : Move). y.action) (whole_move X h))

  same_successor : (X : Shared) → term_of X ≡ made_here.made.successor → term_of (a.around X) ≡ x.successor
  same_successor X h = sym (ap (λ (y : Move). y.successor) (whole_move X h))

  around_length : (X : Shared) → length (shared_words (a.around X)) ≡ length a.before + (length (shared_words X) + length a.after)
  around_length X = omega (arith, ap length (a.words_around X), length-append a.before (shared_words X ++ a.after), length-append (shared_words X) a.after)

  around_short : (X : Shared) → term_of X ≡ made_here.made.successor → length a.before + (length (shared_words X) + length a.after) ≤ size P.edition.width x.successor
  around_short X h = omega (arith, around_length X, shared_short P.edition.width (a.around X), ap (size P.edition.width) (same_successor X h))

  pub place_room : {space room : ℕ} → size P.edition.width x.successor ≤ space → size P.edition.width x.successor ≤ room → RoomFor P.edition.width made_here.made.successor (length a.before) (length a.after) space room
  unfolding term_of
  place_room f g =
      let Y : Shared = Part 0 made_here.made.successor in
      record {
        spelled = omega (arith, a.size_around Y, ap (size P.edition.width) (same_successor Y refl));
        moved = λ X h. omega (arith, around_short X h);
        whole = λ X h. omega (arith, around_short X h);
      }

  pub place_taken : {d' : List ℕ} {r : Option Moved} → ChangedRight u P made_here.made.action made_here.made.successor a.before a.after d' r → StepTaken u P x d' r
  place_taken {d'} {r} c =
      let X : Shared = c.shared in
      let w = a.words_around X in
      record {
        shared = a.around X;
        stands = a.stands_around X c.stands;
        is_successor = same_successor X c.is_successor;
        held = ap (λ l. take (length l) d') w ∙ c.held ∙ sym w;
        moved = c.moved;
        answered = c.answered;
        words_are = c.words_are ∙ sym (ap length w);
        action_is = c.action_is ∙ ap action_code (same_action X c.is_successor);
      }
