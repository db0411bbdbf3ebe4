-- Answers of listing: one move, none, and lists one after the other (document 01, "Moves, in order").
use mathlib.Core.Path.{◌≡◌, refl, sym, ap, ◌∙◌, subst}
use mathlib.Core.List.{List, [], ◌++◌, append-nil, append_assoc}
use Prim.Native.Nat.{ℕ, ◌+◌, ◌≤◌, ◌<◌}
use native.Mathlib.Omega.{arith}
use lib.ListN.{length, take, set, length-append}
use Rattle.std.specs.Prelude.{Option, Some, None, IsSome, IfSome}
use Rattle.std.proofs.lemmas.List.{take_more_set}
use Rattle.std.proofs.lemmas.Option.{IfSome_then}
use Rattle.eb3.specs.Scopes.{Scope}
use Rattle.eb3.specs.Terms.{Term}
use Rattle.eb3.specs.Spelling.{words}
use Rattle.words.specs.Checking.{last_of}
use Rattle.listing.specs.Listing.{TermAt, holding, room, Listed}
use Rattle.listing.specs.Positions.{TwoAt}
use Rattle.listing.specs.Laws.Positions.{second_at}
use Rattle.listing.specs.Arms.{Lists, OneListed, ShownListed, TwoListed}
use Rattle.listing.specs.Shown.{shown}
use Rattle.listing.specs.Laws.Shown.{shown_all, shown_below}

-- ── the whole ──

-- What is known of a term that may be there.
abbrev pub Told : ℕ → List ℕ → ℕ → List ℕ → ℕ → List ℕ → Option ℕ → Scope → Term → List ℕ → Type 0
Told x M n entry m exit r P E rest = (n + room (holding M) E ≤ length entry → IsSome r) × IfSome r (Lists (shown x (holding M) E) (length rest) n entry m exit)

pub listed_of : {x : ℕ} {s M : List ℕ} {n : ℕ} {entry : List ℕ} {m : ℕ} {exit : List ℕ} {r : Option ℕ}
    → ((P : Scope) (E : Term) (rest : List ℕ) → TermAt s P E rest → Told x M n entry m exit r P E rest) → ShownListed x s M n entry m exit r
listed_of f = record { has_room = λ P E rest k. (f P E rest k).0; right = λ P E rest k. (f P E rest k).1 }

-- The same numbers, and as many words left.
pub lists_to : {l o : List ℕ} {left c n : ℕ} {entry : List ℕ} {m : ℕ} {exit : List ℕ} {a b : ℕ} → l ≡ o → b ≡ left → Lists o c n entry m exit a → Lists l left n entry m exit b
lists_to {l} {o} {left} {c} {n} {entry} e f h = record { left_over = f; counted = h.counted ∙ ap (λ v. n + length v) (sym e); listed = h.listed ∙ ap (λ v. take n entry ++ v) (sym e) }

pub lists_as : {l o : List ℕ} {left k : ℕ} (n : ℕ) (entry : List ℕ) (m : ℕ) (exit : List ℕ) (r : Option ℕ) → l ≡ o → left ≡ k → IfSome r (Lists o left n entry m exit) → IfSome r (Lists l k n entry m exit)
lists_as n entry m exit r e f h = IfSome_then r h (λ v g. lists_to e (g.left_over ∙ f) g)

-- Conditions are judged in the same store.
pub at_store : {x : ℕ} {s M N : List ℕ} {n : ℕ} {entry : List ℕ} {m : ℕ} {exit : List ℕ} {r : Option ℕ} → N ≡ M → ShownListed x s N n entry m exit r → ShownListed x s M n entry m exit r
at_store {x} {s} {M} {N} {n} {entry} {m} {exit} {r} e h = subst (λ S. ShownListed x s S n entry m exit r) e h

-- Outside no label there are all moves.
module _ (s M entry : List ℕ) (m : ℕ) (exit : List ℕ) where
  pub all_lost : ShownListed 0 s M 0 entry m exit None → length exit ≡ length entry → Listed s M entry exit None
  all_lost h same = record { same_length = same; few_left = tt; count_bounded = tt; has_room = λ P E rest k z. h.has_room P E rest k (omega arith); right = λ P E rest k. tt }

  pub all_listed : (left : ℕ) → ShownListed 0 s M 0 entry m exit (Some left) → length exit ≡ length entry → m ≤ length exit → left ≤ 65535 → Listed s M entry exit (Some (record { count = m; left = left }))
  all_listed left h same fits few = record {
    same_length = same;
    few_left = few;
    count_bounded = omega arith;
    has_room = λ P E rest k z. refl;
    right = λ P E rest k.
        let l : Lists (shown 0 (holding M) E) (length rest) 0 entry m exit left = h.right P E rest k in
        let e = ap length (shown_all (holding M) E) in
        record {
          counted = omega (arith, l.counted, e);
          left_over = l.left_over;
          listed = ap (λ j. take j exit) (omega (arith, l.counted, e)) ∙ l.listed ∙ shown_all (holding M) E;
        };
  }

-- ── no move, and one ──

pub none_lists : (n : ℕ) (entry : List ℕ) (left r : ℕ) → r ≡ left → Lists [] left n entry n entry r
none_lists n entry left r e = record { left_over = e; counted = omega arith; listed = sym (append-nil (take n entry)) }

pub one_lost : (code left : ℕ) (M : List ℕ) (n : ℕ) (entry : List ℕ) → length entry ≤ n → OneListed code left M n entry n entry None
one_lost code left M n entry h = record { has_room = λ k. absurd (omega arith); right = tt }

pub one_made : (code left : ℕ) (M : List ℕ) (n : ℕ) (entry : List ℕ) → n < length entry → OneListed code left M n entry (n + 1) (set entry n code) (Some left)
one_made code left M n entry h = record { has_room = λ k. refl; right = record { left_over = refl; counted = omega arith; listed = take_more_set entry n code h } }

-- ── lists one after the other ──

pub lists_after : {o p : List ℕ} {a left n : ℕ} {entry : List ℕ} {k : ℕ} {mid : List ℕ} {m : ℕ} {exit : List ℕ} {v w : ℕ} → Lists o a n entry k mid v → Lists p left k mid m exit w → Lists (o ++ p) left n entry m exit w
lists_after {o} {p} {a} {left} {n} {entry} f g = record {
  left_over = g.left_over;
  counted = omega (arith, f.counted, g.counted, length-append o p);
  listed = g.listed ∙ ap (λ z. z ++ p) f.listed ∙ append_assoc (take n entry) o p;
}

pub two_lost : {x : ℕ} (t M : List ℕ) (n : ℕ) (entry : List ℕ) (k : ℕ) (mid : List ℕ) → ShownListed x t M n entry k mid None → TwoListed x t M n entry k mid None
two_lost t M n entry k mid h = record {
  has_room = λ P E F rest s z. h.has_room P E (words P.edition.width F ++ rest) s.first (omega arith);
  right = λ P E F rest s. tt;
}

-- l words are left after the first, where the second begins
module _ {x : ℕ} (t M : List ℕ) (n : ℕ) (entry : List ℕ) (k : ℕ) (mid : List ℕ) (l : ℕ) (first : ShownListed x t M n entry k mid (Some l)) where
  pub first_lists : {P : Scope} {E F : Term} {rest : List ℕ} → TwoAt t P E F rest → Lists (shown x (holding M) E) (length (words P.edition.width F ++ rest)) n entry k mid l
  first_lists {P} {E} {F} {rest} s = first.right P E (words P.edition.width F ++ rest) s.first

  pub second_here : (u : List ℕ) → u ≡ last_of l t → {P : Scope} {E F : Term} {rest : List ℕ} → TwoAt t P E F rest → TermAt u P F rest
  second_here u isu s = second_at l u s (first_lists s).left_over isu

  pub two_listed : (u : List ℕ) → u ≡ last_of l t → length mid ≡ length entry → (m : ℕ) (exit : List ℕ) (r : Option ℕ) → ShownListed x u M k mid m exit r → TwoListed x t M n entry m exit r
  two_listed u isu same m exit r second = record {
    has_room = λ P E F rest s z. second.has_room P F rest (second_here u isu s) (omega (arith, (first_lists s).counted, shown_below x (holding M) E));
    right = λ P E F rest s. IfSome_then r (second.right P F rest (second_here u isu s)) (λ v g. lists_after (first_lists s) g);
  }
