-- What spelling a shared term out leaves in what is written into, and what is answered (document 01, "Operations": Run writes the last term): the arrays are
-- the same, the one that is written as long as it was, and what is answered is how many words are left.
use Rattle.std.specs.Prelude.{◌≡◌, List, ℕ, ◌≤◌, length, Option, None, Some, IfSome}
use Rattle.sharing.specs.Splicing.{SpelledTo, spelled_to}
use Rattle.sharing.specs.declared.expansion.Expansion.{Expansion}
use Rattle.sharing.specs.declared.expansion.Extent.{Extent}

pub record Kept (b e : Expansion) (r : Option ℕ) : Type 0 where
  pub same_unfolding : e.unfolding ≡ b.unfolding
  pub same_array : e.out.ghost_name ≡ b.out.ghost_name
  pub same_length : length e.out.now ≡ length b.out.now
  pub few_left : IfSome r (λ n. n ≤ 65535)

-- How far spelling out came: the place is in the expansion, and the words left are answered.
abbrev pub came : Expansion → Option ℕ → Option SpelledTo
came e None = None
came e (Some left) = Some (spelled_to left e.at)

-- D of what was b and is e, and of the answer r: of the first place, of the array before and after, and of how far spelling out came.
abbrev pub Into : (ℕ → List ℕ → List ℕ → Option SpelledTo → Type 0) → Expansion → Expansion → Option ℕ → Type 0
Into D b e r = D b.at b.out.now e.out.now (came e r)

-- The same of both numbers answered together.
abbrev pub numbers : Option Extent → Option SpelledTo
numbers None = None
numbers (Some x) = Some (spelled_to x.left x.end)
