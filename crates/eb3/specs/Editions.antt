-- The editions: what a stream's first word decides (document 01, "Values and conditions", "Blocks and the rule stream", items 1 and 4, and refusal 3).
-- The one place that says which editions there are.
use Rattle.std.specs.Prelude.{◌≡◌, Bool, false, ℕ, ◌+◌, ◌^◌, ◌≤◌, ◌<◌, eqb}
use Rattle.std.proofs.Math.Option.{Option, none, some}
use Rattle.eb3.specs.Limits
use Rattle.eb3.specs.Reading.{pick}
use Rattle.eb3.specs.Memory.{undefined_cell}

pub record Edition : Type 0 where
  -- The stream's first word.
  pub number : ℕ
  -- The largest number, and the words of a constant.
  pub top : ℕ
  pub width : ℕ
  -- The most parameters of a function, and whether the stream says how many each has; where it does not, each has one.
  pub function_parameters : ℕ
  pub counts_written : Bool

-- Document 01's.
abbrev pub edition_1 : Edition
edition_1 = record { number = 1; top = 65534; width = 1; function_parameters = 1; counts_written = false }

-- The edition that a stream's first word says, if it is defined.
unfoldable pub edition_of : ℕ → Option Edition
edition_of w = pick (eqb w 1) (some edition_1) none

-- An edition that is defined: it is the one that its number says.
abbrev pub Defined : Edition → Type 0
Defined L = edition_of L.number ≡ some L

-- What the other definitions and the laws ask of an edition: every edition that is defined has it (Laws/Editions).
pub record Proper (L : Edition) : Type 0 where
  -- Its number is a word, and not 0.
  pub numbered : (1 ≤ L.number) × (L.number < 65536)
  -- Every element of a domain is a number, and undefined's word is none.
  pub largest : (Limits.domain_size ≤ 1 + L.top) × (L.top < undefined_cell)
  -- Every number can be written as a constant.
  pub constants : (1 ≤ L.width) × (L.top < 65536 ^ L.width)
  -- A function has at least one parameter and at most two; one where the stream does not say how many.
  pub parameters : (1 ≤ L.function_parameters) × (L.function_parameters ≤ 2)
  pub one_each : L.counts_written ≡ false → L.function_parameters ≡ 1
