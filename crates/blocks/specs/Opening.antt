-- What opening a file answers, in the specification's words.
-- Document 01, "Blocks and the rule stream"; refusals 1 to 3.
use Rattle.std.specs.Prelude.{Bool, ◌&&◌, List, ℕ, ◌+◌, ◌*◌, ◌≤◌, ◌≡◌, eqb, get_or, Result, Ok, Err}
use Rattle.eb3.specs.Answers.{Answer, refused, answered}
use Rattle.eb3.specs.Blocks.{Sums, block_count, Opened}
use Rattle.refusals.specs.declared.Refusal.{Refusal}
use Rattle.refusals.specs.Numbers.{refusal}
use Rattle.blocks.specs.declared.Pair.{Pair}
use Rattle.blocks.specs.declared.opened.Blocks.{Blocks}

abbrev pub as_sums : Pair → Sums
as_sums p = record { a = p.a; b = p.b }

-- What eight bytes, one after the other, add to the sums a and b: b also gets eight times the a before them.
pub record Eight (x : List ℕ) (p : Pair) : Type 0 where
  pub all : p.a ≡ get_or x 0 0 + get_or x 1 0 + get_or x 2 0 + get_or x 3 0 + get_or x 4 0 + get_or x 5 0 + get_or x 6 0 + get_or x 7 0
  pub weighed : p.b ≡ 8 * get_or x 0 0 + 7 * get_or x 1 0 + 6 * get_or x 2 0 + 5 * get_or x 3 0 + 4 * get_or x 4 0 + 3 * get_or x 5 0 + 2 * get_or x 6 0 + get_or x 7 0
  pub low : p.a ≤ 2040
  pub high : p.b ≤ 9180

-- The first two words of the first block's content, read where they are.
abbrev pub edition_test : List ℕ → ℕ → Bool
edition_test s n = eqb (get_or s 4 0 + 256 * get_or s 5 0) 1 && eqb (get_or s 6 0 + 256 * get_or s 7 0) n

-- An opened file by its number of blocks, a refused one by the refusal.
unfoldable pub opening : List ℕ → Answer Opened → Result ℕ Refusal
opening rules (refused k) = Err (refusal k)
opening rules (answered o) = Ok (block_count rules)

-- How many blocks the opened file has, or the refusal.
abbrev pub counted : Result Blocks Refusal → Result ℕ Refusal
counted (Ok file) = Ok file.count
counted (Err k) = Err k
