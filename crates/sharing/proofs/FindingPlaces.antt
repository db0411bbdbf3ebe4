-- The place of a move, seen from the whole term: in what is followed, and on either side of a parallel (document 01, "Moves, in order").
use mathlib.Core.Path.{◌≡◌, sym, ap, ◌∙◌}
use mathlib.Core.Bool.{false, ◌&&◌}
use mathlib.Core.Option.{Option, some}
use mathlib.Core.List.{List, [], ◌∷◌, ◌++◌, append-nil, append_assoc}
use Prim.Native.Nat.{ℕ, ◌-◌, ◌≤◌, ◌<◌}
use native.Mathlib.Omega.{arith}
use lib.ListN.{length, drop, get_elem?}
use Rattle.eb3.specs.Scopes.{Scope}
use Rattle.eb3.specs.Terms.{Term, done?}
use Rattle.eb3.specs.Moves.{Move, move, moves}
use Rattle.eb3.specs.Sizes.{size}
use Rattle.listing.specs.Listing.{holding}
use Rattle.derivation.specs.Derived.{move_count}
use Rattle.sharing.specs.Shared.{Shared, Then, Beside, term_of, part_word, shared_words, PartAt, Stands}
use Rattle.sharing.specs.Walking.{Spot, spot_at}
use Rattle.sharing.specs.Finding.{Moving, Place, FoundRight}
use Rattle.sharing.proofs.FindingMoves.{entry_sequence, entry_left, entry_right}

-- ── the whole term ──

module _ {u : List ℕ} {P : Scope} {M p : List ℕ} {S : Shared} {k : ℕ} where
  pub place_self : Moving u P M p S k → Place u P M p S k
  place_self m = record {
    here = S;
    j = k;
    moving = m;
    around = λ X. X;
    before = [];
    after = [];
    words_here = sym (append-nil (shared_words S));
    words_around = λ X. sym (append-nil (shared_words X));
    stands_around = λ X s. s;
    size_around = λ X. omega arith;
    move_here = λ X x e f. e ∙ ap {B = Option Move} (λ E. some (move x.action E)) f;
  }

-- ── in what is followed ──

module _ {u : List ℕ} {P : Scope} {M p : List ℕ} {S : Shared} {k : ℕ} (a : Place u P M p S k) where
  pub place_then : (l : ℕ) (F : Term) → done? (term_of S) ≡ false → PartAt u P l F → Place u P M p (Then S l F) k
  unfolding term_of shared_words size
  place_then l F d h = record {
    here = a.here;
    j = a.j;
    moving = a.moving;
    around = λ X. Then (a.around X) l F;
    before = 22 ∷ part_word l ∷ a.before;
    after = a.after;
    words_here = ap (λ t. 22 ∷ part_word l ∷ t) a.words_here;
    words_around = λ X. ap (λ t. 22 ∷ part_word l ∷ t) (a.words_around X);
    stands_around = λ X s. (a.stands_around X s, h);
    size_around = λ X. omega (arith, a.size_around X);
    move_here = λ X x e f. entry_sequence (holding M) (term_of S) F d k (move x.action (term_of (a.around X))) (a.move_here X x e f);
  }

  -- three pieces, and a fourth after the last
  regroup : (x y z w : List ℕ) → (x ++ (y ++ z)) ++ w ≡ x ++ (y ++ (z ++ w))
  regroup x y z w = append_assoc x (y ++ z) w ∙ ap (λ t. x ++ t) (append_assoc y z w)

  pub place_left : (T : Shared) → (done? (term_of S) && done? (term_of T)) ≡ false → Stands u P T → k < move_count M (term_of S) → Place u P M p (Beside S T) k
  unfolding term_of shared_words size
  place_left T d h l = record {
    here = a.here;
    j = a.j;
    moving = a.moving;
    around = λ X. Beside (a.around X) T;
    before = 25 ∷ a.before;
    after = a.after ++ shared_words T;
    words_here = ap (λ t. 25 ∷ (t ++ shared_words T)) a.words_here ∙ ap (λ t. 25 ∷ t) (regroup a.before (shared_words a.here) a.after (shared_words T));
    words_around = λ X. ap (λ t. 25 ∷ (t ++ shared_words T)) (a.words_around X) ∙ ap (λ t. 25 ∷ t) (regroup a.before (shared_words X) a.after (shared_words T));
    stands_around = λ X s. (a.stands_around X s, h);
    size_around = λ X. omega (arith, a.size_around X);
    move_here = λ X x e f. entry_left (holding M) (term_of S) (term_of T) d k (move x.action (term_of (a.around X))) l (a.move_here X x e f);
  }

module _ {u : List ℕ} {P : Scope} {M p : List ℕ} {T : Shared} {i : ℕ} (a : Place u P M p T i) where
  pub place_right : (S : Shared) (k : ℕ) → (done? (term_of S) && done? (term_of T)) ≡ false → Stands u P S → move_count M (term_of S) ≤ k → i ≡ k - move_count M (term_of S)
      → Place u P M p (Beside S T) k
  unfolding term_of shared_words size
  place_right S k d h l q = record {
    here = a.here;
    j = a.j;
    moving = a.moving;
    around = λ X. Beside S (a.around X);
    before = 25 ∷ (shared_words S ++ a.before);
    after = a.after;
    words_here = ap (λ t. 25 ∷ (shared_words S ++ t)) a.words_here ∙ ap (λ t. 25 ∷ t) (sym (append_assoc (shared_words S) a.before (shared_words a.here ++ a.after)));
    words_around = λ X. ap (λ t. 25 ∷ (shared_words S ++ t)) (a.words_around X) ∙ ap (λ t. 25 ∷ t) (sym (append_assoc (shared_words S) a.before (shared_words X ++ a.after)));
    stands_around = λ X s. (h, a.stands_around X s);
    size_around = λ X. omega (arith, a.size_around X);
    move_here = λ X x e f. entry_right (holding M) (term_of S) (term_of T) d k (move x.action (term_of (a.around X))) l (ap (get_elem? (moves (holding M) (term_of T))) (sym q) ∙ a.move_here X x e f);
  }

-- ── what was answered ──

module _ {u : List ℕ} {P : Scope} {M : List ℕ} {S : Shared} {rest : List ℕ} {k : ℕ} {exit : List ℕ} {r : Spot} where
  pub right_self : (q : ℕ) → Moving u P M (drop q exit) S k → r ≡ spot_at (length (shared_words S ++ rest)) q → FoundRight u P M S rest k exit r
  unfolding place_self
  right_self q m e = record { q = q; place = place_self m; answered = e }

  pub right_then : (l : ℕ) (F : Term) → done? (term_of S) ≡ false → PartAt u P l F → FoundRight u P M S rest k exit r → FoundRight u P M (Then S l F) rest k exit r
  unfolding place_then
  right_then l F d h f = record { q = f.q; place = place_then f.place l F d h; answered = f.answered }

module _ {u : List ℕ} {P : Scope} {M : List ℕ} {S T : Shared} {rest exit : List ℕ} {r : Spot} (d : (done? (term_of S) && done? (term_of T)) ≡ false) where
  pub right_left : {k : ℕ} → Stands u P T → k < move_count M (term_of S) → FoundRight u P M S (shared_words T ++ rest) k exit r → FoundRight u P M (Beside S T) rest k exit r
  unfolding place_left
  right_left h l f = record {
    q = f.q;
    place = place_left f.place T d h l;
    answered = f.answered ∙ ap (λ t. spot_at (length (shared_words f.place.here ++ t)) f.q) (sym (append_assoc f.place.after (shared_words T) rest));
  }

  pub right_right : {i : ℕ} (k : ℕ) → Stands u P S → move_count M (term_of S) ≤ k → i ≡ k - move_count M (term_of S) → FoundRight u P M T rest i exit r → FoundRight u P M (Beside S T) rest k exit r
  unfolding place_right
  right_right k h l e f = record { q = f.q; place = place_right f.place S k d h l e; answered = f.answered }
