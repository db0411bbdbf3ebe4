-- The term of a run, held in few words over the start's unfolding (document 01, "Unfolding, size and breadth"; "Moves, in order"). Whatever has not started
-- stays in the unfolding as it was written there: the right operand of a sequence, a star that goes round, a side of a parallel that has not moved. Such a part
-- is held as one number: how many words of the unfolding are left where it begins. Only what has started is spelled out: sequences whose left operand moves,
-- parallels without a mask, and done. So a move writes a few words, and nothing that is unchanged need be passed over.
use Rattle.std.specs.Prelude.{◌≡◌, true, false, List, [], ◌∷◌, ◌++◌, ℕ, ◌+◌, ◌≤◌, length}
use Rattle.eb3.specs.Scopes.{Scope}
use Rattle.eb3.specs.Terms.{Term, Done, Internal, Perform, Sequence, Choice, Star, Parallel, Guard, Mask, done?}
use Rattle.eb3.specs.Sizes.{zero_mask}
use Rattle.words.specs.Checking.{last_of}
use Rattle.listing.specs.Listing.{TermAt}

-- `Ended`: done. `Part l E`: E, which begins where l words of the unfolding are left. `Then S l F`: S, and then F, which begins there. `Beside S T`: both, in
-- parallel without a mask.
pub data Shared : Type 0 where
  Ended : Shared
  Part : ℕ → Term → Shared
  Then : Shared → ℕ → Term → Shared
  Beside : Shared → Shared → Shared

abbrev pub no_mask : Mask
no_mask = 0 ∷ 0 ∷ 0 ∷ 0 ∷ []

-- The term that a shared term means.
unfoldable pub term_of : Shared → Term
term_of Ended = Done
term_of (Part l E) = E
term_of (Then S l F) = Sequence (term_of S) F
term_of (Beside S T) = Parallel no_mask (term_of S) (term_of T)

-- The word of a part where l words are left: it is above every code.
abbrev pub part_word : ℕ → ℕ
part_word l = 32 + l

-- The words that it is held in. In a sequence the part that comes later, F, is written before S, so that one word at a known place says whether S is done.
unfoldable pub shared_words : Shared → List ℕ
shared_words Ended = 30 ∷ []
shared_words (Part l E) = part_word l ∷ []
shared_words (Then S l F) = 22 ∷ part_word l ∷ shared_words S
shared_words (Beside S T) = 25 ∷ (shared_words S ++ shared_words T)

-- A term none of whose parallels has a label in its mask.
abbrev pub Unmasked : Term → Type 0
Unmasked Done = Unit
Unmasked Internal = Unit
Unmasked (Perform a) = Unit
Unmasked (Sequence E F) = Unmasked E × Unmasked F
Unmasked (Choice E F) = Unmasked E × Unmasked F
Unmasked (Star E) = Unmasked E
Unmasked (Parallel Δ E F) = (zero_mask Δ ≡ true) × Unmasked E × Unmasked F
Unmasked (Guard C E) = Unmasked E

-- In the words u of the unfolding the term E begins where l words are left.
pub record PartAt (u : List ℕ) (P : Scope) (l : ℕ) (E : Term) : Type 0 where
  pub rest : List ℕ
  pub within : l ≤ length u
  pub there : TermAt (last_of l u) P E rest
  pub unmasked : Unmasked E

-- All parts of the shared term are in the unfolding u. Done is always spelled out.
abbrev pub Stands : List ℕ → Scope → Shared → Type 0
Stands u P Ended = Unit
Stands u P (Part l E) = (done? E ≡ false) × PartAt u P l E
Stands u P (Then S l F) = Stands u P S × PartAt u P l F
Stands u P (Beside S T) = Stands u P S × Stands u P T
