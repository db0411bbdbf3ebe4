-- The engine is the one that the demands fix (document 01, "Four questions about contracts"): the operations of eb3, with which the code's contracts are
-- equations, meet them, and no others do. Proved in Laws/Demanded (`the_engine`).
use Rattle.std.specs.Prelude.{◌≡◌}
use Rattle.eb3.specs.Operations.{admit, start, count, move, present, run, ScratchAfter}
use Rattle.demanded.specs.Demanded.{Operations, Demanded, ScratchDemands}

abbrev pub our_operations : Operations
our_operations = record { admit = admit; start = start; count = count; move = move; present = present; run = run }

pub record Ours : Type 0 where
  pub meet : Demanded our_operations
  pub alone : (o : Operations) → Demanded o → o ≡ our_operations
  -- Run's scratch buffers.
  pub scratch : ScratchDemands ScratchAfter
