-- What is shown of the operands after a code is shown of every term that begins with it.
-- Document 01, "Moves, in order".
use Rattle.std.specs.Prelude.{◌≡◌, List, ◌∷◌, ℕ, drop}
use Rattle.std.proofs.Common.{ap}
use Rattle.eb3.specs.Expressions.{Cond}
use Rattle.eb3.specs.Scopes.{Scope}
use Rattle.eb3.specs.Terms.{Term, Done, Internal, Perform, Sequence, Choice, Star, Parallel, Guard, VisibleAction}
use Rattle.eb3.specs.Spelling.{words}
use Rattle.actions.specs.Codes.{ActionAt}
use Rattle.listing.specs.Listing.{TermAt}
use Rattle.listing.specs.Positions.{TwoAt, MaskedAt, GuardedAt}
use Rattle.listing.specs.Laws.Positions.{term_front, perform_at, sequence_at, choice_at, star_at, parallel_at, guard_at}
use Rattle.listing.specs.Laws.ByCode.{by_done, by_internal, by_perform, by_sequence, by_choice, by_star, by_parallel, by_guard}

module _ (t : List ℕ) (Q : Scope → Term → List ℕ → Type 0) where
  pub internal_cases : ((P : Scope) (rest : List ℕ) → t ≡ rest → Q P Internal rest) → (P : Scope) (X : Term) (rest : List ℕ) → TermAt (20 ∷ t) P X rest → Q P X rest
  unfolding words
  internal_cases f P X rest h = by_internal (λ Y. TermAt (20 ∷ t) P Y rest → Q P Y rest) (λ k. f P rest (ap (drop 1) k.spelled)) X (term_front (20 ∷ t) P X rest h) h

  pub perform_cases : ((P : Scope) (a : VisibleAction) (rest : List ℕ) → ActionAt t a rest → Q P (Perform a) rest) → (P : Scope) (X : Term) (rest : List ℕ) → TermAt (21 ∷ t) P X rest → Q P X rest
  perform_cases f P X rest h = by_perform (λ Y. TermAt (21 ∷ t) P Y rest → Q P Y rest) (λ a k. f P a rest (perform_at t P rest a k)) X (term_front (21 ∷ t) P X rest h) h

  pub sequence_cases : ((P : Scope) (E F : Term) (rest : List ℕ) → TwoAt t P E F rest → Q P (Sequence E F) rest) → (P : Scope) (X : Term) (rest : List ℕ) → TermAt (22 ∷ t) P X rest → Q P X rest
  sequence_cases f P X rest h = by_sequence (λ Y. TermAt (22 ∷ t) P Y rest → Q P Y rest) (λ E F k. f P E F rest (sequence_at t P rest E F k)) X (term_front (22 ∷ t) P X rest h) h

  pub choice_cases : ((P : Scope) (E F : Term) (rest : List ℕ) → TwoAt t P E F rest → Q P (Choice E F) rest) → (P : Scope) (X : Term) (rest : List ℕ) → TermAt (23 ∷ t) P X rest → Q P X rest
  choice_cases f P X rest h = by_choice (λ Y. TermAt (23 ∷ t) P Y rest → Q P Y rest) (λ E F k. f P E F rest (choice_at t P rest E F k)) X (term_front (23 ∷ t) P X rest h) h

  pub star_cases : ((P : Scope) (E : Term) (rest : List ℕ) → TermAt t P E rest → Q P (Star E) rest) → (P : Scope) (X : Term) (rest : List ℕ) → TermAt (24 ∷ t) P X rest → Q P X rest
  star_cases f P X rest h = by_star (λ Y. TermAt (24 ∷ t) P Y rest → Q P Y rest) (λ E k. f P E rest (star_at t P rest E k)) X (term_front (24 ∷ t) P X rest h) h

  pub parallel_cases : ((P : Scope) (Δ : List ℕ) (E F : Term) (rest : List ℕ) → MaskedAt t P Δ E F rest → Q P (Parallel Δ E F) rest) → (P : Scope) (X : Term) (rest : List ℕ) → TermAt (25 ∷ t) P X rest → Q P X rest
  parallel_cases f P X rest h = by_parallel (λ Y. TermAt (25 ∷ t) P Y rest → Q P Y rest) (λ Δ E F k. f P Δ E F rest (parallel_at t P rest Δ E F k)) X (term_front (25 ∷ t) P X rest h) h

  pub guard_cases : ((P : Scope) (C : Cond) (E : Term) (rest : List ℕ) → GuardedAt t P C E rest → Q P (Guard C E) rest) → (P : Scope) (X : Term) (rest : List ℕ) → TermAt (26 ∷ t) P X rest → Q P X rest
  guard_cases f P X rest h = by_guard (λ Y. TermAt (26 ∷ t) P Y rest → Q P Y rest) (λ C E k. f P C E rest (guard_at t P rest C E k)) X (term_front (26 ∷ t) P X rest h) h

  pub done_cases : ((P : Scope) (rest : List ℕ) → t ≡ rest → Q P Done rest) → (P : Scope) (X : Term) (rest : List ℕ) → TermAt (30 ∷ t) P X rest → Q P X rest
  unfolding words
  done_cases f P X rest h = by_done (λ Y. TermAt (30 ∷ t) P Y rest → Q P Y rest) (λ k. f P rest (ap (drop 1) k.spelled)) X (term_front (30 ∷ t) P X rest h) h
