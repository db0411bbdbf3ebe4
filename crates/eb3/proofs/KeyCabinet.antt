-- The key cabinet's main runs (document 01, "Examples").
use Rattle.eb3.specs.WellFormedness.{Running}
use Rattle.eb3.specs.Unfolding.{unfold_main}
use Rattle.eb3.specs.KeyCabinet.{cabinet, cabinet_well_formed}
use Rattle.eb3.proofs.Laws.MainRunning.{main_running}

pub cabinet_runs : Running cabinet (unfold_main cabinet)
cabinet_runs = main_running cabinet cabinet_well_formed
