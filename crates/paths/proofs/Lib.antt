-- That a derivation's path leads to its move (document 01, "Moves, in order").
pub mod SeekLaws
pub mod SmallLaws
pub mod FilterLaws
pub mod ShownLaws
pub mod PathLaws
