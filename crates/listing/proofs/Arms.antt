-- Each form of a term: from its operands' answers to its own (document 01, "Moves, in order").
use mathlib.Core.Path.{◌≡◌, refl, sym, ap, ◌∙◌, subst}
use mathlib.Core.Bool.{Bool, true, false}
use mathlib.Core.List.{List, [], ◌∷◌, ◌++◌}
use Prim.Native.Nat.{ℕ, ◌<◌}
use lib.ListN.{length, drop, get_or}
use Rattle.std.specs.Prelude.{Option, Some, None}
use Rattle.eb3.specs.Scopes.{Scope}
use Rattle.eb3.specs.Terms.{Term, VisibleAction, visible}
use Rattle.eb3.specs.Spelling.{words}
use Rattle.words.specs.Checking.{last_of}
use Rattle.actions.specs.Codes.{action_code, ActionAt}
use Rattle.actions.specs.Sets.{in_set}
use Rattle.listing.specs.Listing.{TermAt, holding, room}
use Rattle.listing.specs.Laws.Positions.{term_front, second_at}
use Rattle.listing.specs.Laws.ByCode.{NoOther, by_rest}
use Rattle.listing.specs.Laws.CasesByCode.{internal_cases, perform_cases, sequence_cases, choice_cases}
use Rattle.listing.specs.Laws.Operands.{first_done, first_other, second_behind, front_form}
use Rattle.listing.specs.Shown.{shown}
use Rattle.listing.specs.Laws.Shown.{shown_done, shown_internal, shown_perform, shown_hidden, shown_after_done, shown_sequence, shown_choice}
use Rattle.listing.specs.Laws.Rooms.{room_after_done, room_sequence, room_choice}
use Rattle.listing.specs.Arms.{Lists, OneListed, ShownListed, TwoListed}
use Rattle.listing.proofs.Answers.{Told, listed_of, lists_to, lists_as, none_lists}

-- ── no operand, or two listed one after the other ──

pub internal_listed : {x : ℕ} (t M : List ℕ) (n : ℕ) (entry : List ℕ) (m : ℕ) (exit : List ℕ) (r : Option ℕ) → OneListed 0 (length t) M n entry m exit r → ShownListed x (20 ∷ t) M n entry m exit r
unfolding room
internal_listed {x} t M n entry m exit r h = listed_of (internal_cases t (Told x M n entry m exit r)
    (λ P rest e. (λ k. h.has_room k, lists_as n entry m exit r (shown_internal x (holding M)) (ap length e) h.right)))

-- code is the action's number, and `left` words are left after it
module _ (x : ℕ) (t M : List ℕ) (n : ℕ) (entry : List ℕ) (code left : ℕ) (f : (a : VisibleAction) (rest : List ℕ) → ActionAt t a rest → code ≡ action_code (visible a))
    (g : (a : VisibleAction) (rest : List ℕ) → ActionAt t a rest → left ≡ length rest) (b : Bool) (tested : b ≡ in_set x code) where
  told : (a : VisibleAction) (rest : List ℕ) → ActionAt t a rest → in_set x (action_code (visible a)) ≡ b
  told a rest s = sym (tested ∙ ap (in_set x) (f a rest s))

  pub action_hidden : b ≡ true → ShownListed x (21 ∷ t) M n entry n entry (Some left)
  action_hidden e = listed_of (perform_cases t (Told x M n entry n entry (Some left))
      (λ P a rest s. (λ k. refl, lists_as n entry n entry (Some left) (shown_hidden x (holding M) a (told a rest s ∙ e)) refl (none_lists n entry (length rest) left (g a rest s)))))

  pub action_listed : (m : ℕ) (exit : List ℕ) (r : Option ℕ) → b ≡ false → OneListed code left M n entry m exit r → ShownListed x (21 ∷ t) M n entry m exit r
  unfolding room
  action_listed m exit r e h = listed_of (perform_cases t (Told x M n entry m exit r)
      (λ P a rest s. (λ k. h.has_room k, lists_as n entry m exit r (shown_perform x (holding M) a (told a rest s ∙ e) ∙ ap (λ c. c ∷ []) (sym (f a rest s))) (g a rest s) h.right)))

pub choice_listed : {x : ℕ} (t M : List ℕ) (n : ℕ) (entry : List ℕ) (m : ℕ) (exit : List ℕ) (r : Option ℕ) → TwoListed x t M n entry m exit r → ShownListed x (23 ∷ t) M n entry m exit r
choice_listed {x} t M n entry m exit r h = listed_of (choice_cases t (Told x M n entry m exit r)
    (λ P E F rest s. (
      λ k. h.has_room P E F rest s (rw (room_choice (holding M) E F) at k),
      lists_as n entry m exit r (shown_choice x (holding M) E F) refl (h.right P E F rest s),
    )))

-- ── a sequence ──

-- its left term is done
pub sequence_right : {x : ℕ} (t M : List ℕ) (n : ℕ) (entry : List ℕ) (m : ℕ) (exit : List ℕ) (u : List ℕ) (r : Option ℕ) → get_or t 0 0 ≡ 30 → u ≡ drop 1 t
    → ShownListed x u M n entry m exit r → ShownListed x (22 ∷ t) M n entry m exit r
sequence_right {x} t M n entry m exit u r e f h = listed_of (sequence_cases t (Told x M n entry m exit r)
    (λ P E F rest s.
    let d = first_done s e in
    let b = second_behind s u e f in (
      λ k. h.has_room P F rest b (rw (room_after_done (holding M) E F d) at k),
      lists_as n entry m exit r (shown_after_done x (holding M) E F d) refl (h.right P F rest b),
    )))

module _ {x : ℕ} (t M : List ℕ) (n : ℕ) (entry : List ℕ) (m : ℕ) (exit : List ℕ) (other : get_or t 0 0 ≡ 30 → ⊥) where
  pub sequence_lost : ShownListed x t M n entry m exit None → ShownListed x (22 ∷ t) M n entry m exit None
  sequence_lost h = listed_of (sequence_cases t (Told x M n entry m exit None)
      (λ P E F rest s.
      let d = first_other s other in
      (λ k. h.has_room P E (words P.edition.width F ++ rest) s.first (rw (room_sequence (holding M) E F d) at k), tt)))

  -- l words are left after the left term, and b after the right one
  pub sequence_left : (l : ℕ) (u : List ℕ) (b : ℕ) → ShownListed x t M n entry m exit (Some l) → u ≡ last_of l t → ((P : Scope) (E : Term) (rest : List ℕ) → TermAt u P E rest → b ≡ length rest)
      → ShownListed x (22 ∷ t) M n entry m exit (Some b)
  sequence_left l u b h isu f = listed_of (sequence_cases t (Told x M n entry m exit (Some b))
      (λ P E F rest s.
      let d = first_other s other in
      let q : Lists (shown x (holding M) E) (length (words P.edition.width F ++ rest)) n entry m exit l = h.right P E (words P.edition.width F ++ rest) s.first in
      (λ k. refl, lists_to (shown_sequence x (holding M) E F d) (f P F rest (second_at l u s q.left_over isu)) q)))

-- ── the code at the front ──

pub at_front : {x : ℕ} (s t M : List ℕ) (n : ℕ) (entry : List ℕ) (m : ℕ) (exit : List ℕ) (w k : ℕ) (r : Option ℕ) → w ≡ get_or s 0 0 → t ≡ drop 1 s → w ≡ k → 0 < k
    → ShownListed x (k ∷ t) M n entry m exit r → ShownListed x s M n entry m exit r
at_front {x} s t M n entry m exit w k r a b e z h = subst (λ u. ShownListed x u M n entry m exit r) (sym (front_form s t w k a b e z)) h

pub other_listed : {x : ℕ} (s t M : List ℕ) (n : ℕ) (entry : List ℕ) (w : ℕ) → w ≡ get_or s 0 0 → t ≡ drop 1 s → NoOther w → ShownListed x s M n entry n entry (Some (length t))
unfolding words
other_listed {x} s t M n entry w a b h = listed_of (λ P X rest k.
    by_rest (λ Y. TermAt s P Y rest → Told x M n entry n entry (Some (length t)) P Y rest) w h
    (λ j. (λ m. refl, lists_as n entry n entry (Some (length t)) (shown_done x (holding M)) (ap length (b ∙ ap (drop 1) j.spelled)) (none_lists n entry (length t) (length t) refl)))
    X (a ∙ term_front s P X rest k) k)
