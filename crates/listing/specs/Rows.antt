-- Terms in a row, one after the other (document 01, "Moves, in order": the operands of a term come one after the other).
use Rattle.std.specs.Prelude.{◌≡◌, List, [], ◌∷◌, ◌++◌, ℕ}
use Rattle.eb3.specs.Generic.AllLists.{All}
use Rattle.eb3.specs.Scopes.{Scope}
use Rattle.eb3.specs.Terms.{Term}
use Rattle.eb3.specs.Spelling.{words}
use Rattle.expressions.specs.Answering.{Plain}
use Rattle.actions.specs.Codes.{Closed}
use Rattle.listing.specs.Listing.{Fits}

-- A constant has `width` words.
abbrev pub terms_words : ℕ → List Term → List ℕ
terms_words width [] = []
terms_words width (E ∷ Es) = words width E ++ terms_words width Es

-- s begins with such terms, and rest comes after them.
pub record RowAt (s : List ℕ) (P : Scope) (Es : List Term) (rest : List ℕ) : Type 0 where
  pub plain : Plain P
  pub fit : All (Fits P) Es
  pub spelled : s ≡ terms_words P.edition.width Es ++ rest
  pub closed : Closed rest
