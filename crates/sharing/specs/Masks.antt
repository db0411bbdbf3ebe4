-- Whether a label is in any mask of a term (document 01, "Moves, in order").
use Rattle.std.specs.Prelude.{◌≡◌, Bool, true, List, ℕ, ◌≤◌, length}
use Rattle.eb3.specs.Scopes.{Scope}
use Rattle.eb3.specs.Terms.{Term}
use Rattle.listing.specs.Listing.{TermAt}
use Rattle.sharing.specs.Shared.{Unmasked}

-- No label is in a mask of the term that s begins with, and n words are left after it.
pub record MaskFree (s : List ℕ) (n : ℕ) : Type 0 where
  pub shorter : n ≤ length s
  pub right : (P : Scope) (E : Term) (rest : List ℕ) → TermAt s P E rest → (n ≡ length rest) × Unmasked E

-- r is true only of a term without a label in any mask.
abbrev pub Shareable : List ℕ → Bool → Type 0
Shareable s r = r ≡ true → (P : Scope) (E : Term) (rest : List ℕ) → TermAt s P E rest → Unmasked E
