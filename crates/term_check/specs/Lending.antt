-- What each part of the check leaves of the weigher that it is lent, and what its answer says with what the weigher then has.
-- Document 01, "Unfolding, size and breadth"; refusal 10.
use Rattle.std.specs.Prelude.{◌≡◌, Option, Some, None, ℕ}
use Rattle.term_check.specs.declared.Weigher.{Weigher}
use Rattle.term_check.specs.Given.{Weighed}

-- The tables are as they were.
pub record Kept (b e : Weigher) : Type 0 where
  pub same_tables : e.tables.now ≡ b.tables.now

-- The words left, and the reach and breadth that the weigher has after it; or that nothing was read.
abbrev pub said : Weigher → Option ℕ → Option Weighed
said w (Some n) = Some (record { left = n; reach = w.reach; breadth = w.breadth })
said w None = None
