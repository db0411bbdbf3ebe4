-- A star and a guard: from their operands' answers to their own (document 01, "Moves, in order").
use mathlib.Core.Path.{◌≡◌, refl, sym, ◌∙◌}
use mathlib.Core.List.{List, [], ◌∷◌}
use Prim.Native.Nat.{ℕ, ◌/◌, ◌%◌}
use native.Mathlib.Omega.{arith}
use lib.ListN.{length}
use Rattle.std.specs.Prelude.{Option, Some, None}
use Rattle.std.proofs.lemmas.Option.{IfSome_then}
use Rattle.eb3.specs.Scopes.{Scope}
use Rattle.eb3.specs.Terms.{Term}
use Rattle.words.specs.Checking.{last_of}
use Rattle.expressions.specs.Answering.{Judged}
use Rattle.listing.specs.Listing.{TermAt, holding}
use Rattle.listing.specs.Laws.Operands.{truth_none, truth_some, holds, guarded_here}
use Rattle.listing.specs.Laws.CasesByCode.{star_cases, guard_cases}
use Rattle.listing.specs.Laws.Shown.{shown_star, shown_guard, shown_shut}
use Rattle.listing.specs.Laws.Rooms.{room_star, room_guard}
use Rattle.listing.specs.Arms.{Lists, OneListed, ShownListed}
use Rattle.listing.proofs.Answers.{Told, listed_of, lists_as, none_lists, lists_after}

-- ── a star ──

pub star_lost : {x : ℕ} (t M : List ℕ) (n : ℕ) (entry : List ℕ) (m : ℕ) (exit : List ℕ) (a : ℕ) → OneListed 0 a M n entry m exit None → ShownListed x (24 ∷ t) M n entry m exit None
star_lost {x} t M n entry m exit a h = listed_of (star_cases t (Told x M n entry m exit None) (λ P E rest s. (λ k. h.has_room (omega (arith, room_star (holding M) E)), tt)))

-- the internal move is listed, and then the term's
pub star_listed : {x : ℕ} (t M : List ℕ) (n : ℕ) (entry : List ℕ) (k : ℕ) (mid : List ℕ) (a v : ℕ) → OneListed 0 a M n entry k mid (Some v) → length mid ≡ length entry
    → (m : ℕ) (exit : List ℕ) (r : Option ℕ) → ShownListed x t M k mid m exit r → ShownListed x (24 ∷ t) M n entry m exit r
star_listed {x} t M n entry k mid a v one same m exit r h =
    let o : Lists (0 ∷ []) a n entry k mid v = one.right in
    listed_of (star_cases t (Told x M n entry m exit r)
    (λ P E rest s. (
      λ z. h.has_room P E rest s (omega (arith, room_star (holding M) E, o.counted)),
      lists_as n entry m exit r (shown_star x (holding M) E) refl (IfSome_then r (h.right P E rest s) (λ w g. lists_after o g)),
    )))

-- ── a guard ──

module _ {x : ℕ} (t M u : List ℕ) (c : ℕ) (judged : Judged t M c) (isu : u ≡ last_of (c / 65536) t) where
  pub guard_shut : (n : ℕ) (entry : List ℕ) (b : ℕ) → c % 65536 ≡ 0 → ((P : Scope) (E : Term) (rest : List ℕ) → TermAt u P E rest → b ≡ length rest) → ShownListed x (26 ∷ t) M n entry n entry (Some b)
  guard_shut n entry b e f = listed_of (guard_cases t (Told x M n entry n entry (Some b))
      (λ P C E rest s. (
        λ k. refl,
        lists_as n entry n entry (Some b) (shown_shut x (holding M) C E (truth_none (holding M C) (sym (holds t M u c judged isu P C E rest s) ∙ e))) refl
            (none_lists n entry (length rest) b (f P E rest (guarded_here t M u c judged isu P C E rest s))),
      )))

  pub guard_open : (n : ℕ) (entry : List ℕ) (m : ℕ) (exit : List ℕ) (r : Option ℕ) → (c % 65536 ≡ 0 → ⊥) → ShownListed x u M n entry m exit r → ShownListed x (26 ∷ t) M n entry m exit r
  guard_open n entry m exit r shut h = listed_of (guard_cases t (Told x M n entry m exit r)
      (λ P C E rest s.
      let b = truth_some (holding M C) (λ e. shut (holds t M u c judged isu P C E rest s ∙ e)) in
      let k = guarded_here t M u c judged isu P C E rest s in (
        λ z. h.has_room P E rest k (rw (room_guard (holding M) C E b) at z),
        lists_as n entry m exit r (shown_guard x (holding M) C E b) refl (h.right P E rest k),
      )))
