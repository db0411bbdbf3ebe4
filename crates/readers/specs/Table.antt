-- The table of counts by reader, as records, and what a run counts for it, as three numbers a reader (document 02, K1).
use Rattle.std.specs.Prelude.{ℕ, zero, suc, ◌+◌, ◌*◌, ◌%◌, ◌<◌, List, [], ◌∷◌, ◌++◌, get_or, slice_index, slice_index_or, slice_set}
use Rattle.eb3.specs.TransitionSystems.{Outcome, took_visible, took_internal, refused}
use Rattle.readers.specs.declared.Counts.{Counts}
use Rattle.readers.specs.declared.Outcome.{Outcome as Counted}
use Rattle.readers.specs.declared.Outcome.TheVariants.{Visible, Internal, Refused}

abbrev pub none : Counts
none = record { visible = 0; internal = 0; refused = 0 }

-- A record that a table can hold.
pub record Of32Bits (c : Counts) : Type 0 where
  pub visible_fits : c.visible < 4294967296
  pub internal_fits : c.internal < 4294967296
  pub refused_fits : c.refused < 4294967296

-- The sums of two records, modulo 4,294,967,296.
abbrev pub plus : Counts → Counts → Counts
plus c d = record { visible = (c.visible + d.visible) % 4294967296; internal = (c.internal + d.internal) % 4294967296; refused = (c.refused + d.refused) % 4294967296 }

-- The table with something added to one record, counted from 0.
unfoldable pub added_to : List Counts → ℕ → Counts → List Counts
added_to t reader more = slice_set t reader (plus (slice_index_or t reader none) more)

-- A reader's three numbers, in the order of the record; the first n records.
abbrev pub counts_at : List ℕ → ℕ → Counts
counts_at ns reader = record { visible = slice_index ns (3 * reader); internal = slice_index ns (3 * reader + 1); refused = slice_index ns (3 * reader + 2) }

unfoldable pub records : ℕ → List ℕ → List Counts
records zero ns = []
records (suc n) ns = records n ns ++ (counts_at ns n ∷ [])

-- The numbers of the first n readers, each added to its record.
unfoldable pub added_first : ℕ → List ℕ → List Counts → List Counts
added_first zero ns t = t
added_first (suc n) ns t = added_to (added_first n ns t) n (counts_at ns n)

-- The numbers of the first n records.
unfoldable pub numbers : ℕ → List Counts → List ℕ
numbers zero t = []
numbers (suc n) t = numbers n t ++ ((get_or t n none).visible ∷ (get_or t n none).internal ∷ (get_or t n none).refused ∷ [])

-- ── counting ──

-- One more of an outcome at a reader, both from 0, modulo 4,294,967,296.
unfoldable pub one_more : List ℕ → ℕ → ℕ → List ℕ
one_more ns reader outcome = slice_set ns (3 * reader + outcome) ((slice_index ns (3 * reader + outcome) + 1) % 4294967296)

-- The place of an outcome's count in a record, as a run counts it and as the specification has it.
abbrev pub place_of : Counted → ℕ
place_of Visible = 0
place_of Internal = 1
place_of Refused = 2

abbrev pub outcome_place : Outcome → ℕ
outcome_place took_visible = 0
outcome_place took_internal = 1
outcome_place refused = 2

-- What each number did, counted at its reader: reader r is at place (r + 31) % 32, so reader 1 at 0 and reader 32 at 31.
unfoldable pub counted_by : List ℕ → List ℕ → List Outcome → List ℕ
counted_by ns [] os = ns
counted_by ns (r ∷ rs) [] = ns
counted_by ns (r ∷ rs) (o ∷ os) = counted_by (one_more ns ((r + 31) % 32) (outcome_place o)) rs os
