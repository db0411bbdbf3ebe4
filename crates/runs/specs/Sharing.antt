-- The term of a run held in few words over the start's unfolding, and the room that its moves take (document 01, "Memory and the history machine";
-- "Operations": Run).
use Rattle.std.specs.Prelude.{◌≡◌, List, ℕ, ◌≤◌, length, take}
use Rattle.eb3.specs.Terms.{Term}
use Rattle.eb3.specs.Scopes.{guard_scope}
use Rattle.eb3.specs.RuleSets.{RuleSet, attributes}
use Rattle.sharing.specs.Shared.{Shared, term_of, shared_words, Stands}

-- The first n words of d hold the term E over the words u.
pub record SharedOver (u : List ℕ) (R : RuleSet) (E : Term) (n : ℕ) (d : List ℕ) : Type 0 where
  pub shared : Shared
  pub stands : Stands u (guard_scope (attributes R) 0) shared
  pub is_term : term_of shared ≡ E
  pub size_is : n ≡ length (shared_words shared)
  pub words_are : take n d ≡ shared_words shared

-- There is room for every term of up to `bound` words, which is held in no more of them: in the words d, and in an array of `middle` words for what is spelled
-- out. There is room for the path of a move of any part of the unfolding u, in `paths` words, and for the numbers that finding it takes, in `numbers` words.
pub record RoomyOver (bound : ℕ) (u d : List ℕ) (paths numbers middle : ℕ) : Type 0 where
  pub words_room : bound ≤ length d
  pub middle_room : bound ≤ middle
  pub path_room : length u ≤ paths
  pub numbers_room : length u ≤ numbers
