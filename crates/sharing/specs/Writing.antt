-- What a successor's beginning leaves in the array that it is written into (document 01, "Moves, in order"): the array is the same, as long as it was, and
-- what is answered is the words left of the path.
use Rattle.std.specs.Prelude.{◌≡◌, List, ℕ, ◌≤◌, length, Option, None, Some, IfSome}
use Rattle.sharing.specs.Beginning.{Reached, reached}
use Rattle.sharing.specs.declared.writer.Writer.{Writer}

pub record Kept (b e : Writer) (r : Option ℕ) : Type 0 where
  pub same_array : e.out.ghost_name ≡ b.out.ghost_name
  pub same_length : length e.out.now ≡ length b.out.now
  pub few_left : IfSome r (λ n. n ≤ 65535)

-- How far writing came: its place and its action's number are in the writer, whose fields bound them, and the words left of the path, which `few_left` bounds,
-- are answered.
abbrev pub answered : Writer → Option ℕ → Option Reached
answered e None = None
answered e (Some left) = Some (reached e.at left e.action)

-- D of the writer that was b and is e, and of the answer r: of the first place, of the array before and after, and of what was written.
abbrev pub Into : (ℕ → List ℕ → List ℕ → Option Reached → Type 0) → Writer → Writer → Option ℕ → Type 0
Into D b e r = D b.at b.out.now e.out.now (answered e r)
