-- The moves of a running term listed by their actions' numbers, in order (document 01, "Moves, in order").
use Rattle.std.specs.Prelude.{◌≡◌, Bool, ◌&&◌, cond, List, ◌++◌, map, ℕ, ◌+◌, ◌≤◌, max, length, take, Option, IsSome, IfSome}
use Rattle.eb3.specs.Expressions.{Cond, evaluate_cond}
use Rattle.eb3.specs.Scopes.{Scope, CondInScope}
use Rattle.eb3.specs.Terms.{Term, Done, Internal, Perform, Sequence, Choice, Star, Parallel, Guard, visible, done?}
use Rattle.eb3.specs.Moves.{Move, moves}
use Rattle.eb3.specs.Sizes.{zero_mask}
use Rattle.eb3.specs.Spelling.{words}
use Rattle.expressions.specs.Stores.{environment_in}
use Rattle.expressions.specs.Answering.{Plain}
use Rattle.actions.specs.Codes.{action_code, Small, Closed}
use Rattle.listing.specs.declared.lister.Moves.{Moves}

-- A running term of a rule set of edition 1, its guards in scope P.
abbrev pub Fits : Scope → Term → Type 0
Fits P Done = Unit
Fits P Internal = Unit
Fits P (Perform a) = Small (visible a)
Fits P (Sequence E F) = Fits P E × Fits P F
Fits P (Choice E F) = Fits P E × Fits P F
Fits P (Star E) = Fits P E
Fits P (Parallel Δ E F) = (length Δ ≡ 4) × Fits P E × Fits P F
Fits P (Guard C E) = CondInScope C P × Fits P E

-- s begins with such a term, and rest comes after it.
pub record TermAt (s : List ℕ) (P : Scope) (E : Term) (rest : List ℕ) : Type 0 where
  pub plain : Plain P
  pub fits : Fits P E
  pub spelled : s ≡ words P.edition.width E ++ rest
  pub closed : Closed rest

-- The conditions that hold at a store.
abbrev pub holding : List ℕ → Cond → Bool
holding M C = evaluate_cond C (environment_in M)

abbrev pub code_of : Move → ℕ
code_of x = action_code x.action

-- The numbers of the moves' actions, in order.
unfoldable pub codes : (Cond → Bool) → Term → List ℕ
codes g E = map code_of (moves g E)

-- The room that listing takes: at a parallel with a mask both sides' lists are before the list that is made of them.
unfoldable pub room : (Cond → Bool) → Term → ℕ
room g Done = 0
room g Internal = 1
room g (Perform a) = 1
room g (Sequence E F) = cond (done? E) (room g F) (room g E)
room g (Choice E F) = max (room g E) (length (codes g E) + room g F)
room g (Star E) = 1 + room g E
room g (Parallel Δ E F) =
    cond (done? E && done? F) 1
    (cond (zero_mask Δ) (max (room g E) (length (codes g E) + room g F))
    (max (room g E) (length (codes g E) + max (room g F) (length (codes g F) + length (codes g (Parallel Δ E F))))))
room g (Guard C E) = cond (g C) (room g E) 0

-- What listing into a lent array answers: how many moves there are, and the words left after the term; the array begins with the moves' numbers.
pub record Right (g : Cond → Bool) (E : Term) (rest exit : List ℕ) (r : Moves) : Type 0 where
  pub counted : r.count ≡ length (codes g E)
  pub left_over : r.left ≡ length rest
  pub listed : take (length (codes g E)) exit ≡ codes g E

-- The same, or None where there was no room.
pub record Listed (s M entry exit : List ℕ) (r : Option Moves) : Type 0 where
  pub same_length : length exit ≡ length entry
  pub few_left : IfSome r (λ l. l.left ≤ 65535)
  pub count_bounded : IfSome r (λ l. l.count ≤ length entry)
  pub has_room : (P : Scope) (E : Term) (rest : List ℕ) → TermAt s P E rest → room (holding M) E ≤ length entry → IsSome r
  pub right : (P : Scope) (E : Term) (rest : List ℕ) → TermAt s P E rest → IfSome r (Right (holding M) E rest exit)
