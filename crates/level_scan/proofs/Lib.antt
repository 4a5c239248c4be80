pub mod SameLevels
pub mod TabletLemmas
pub mod HeldLemmas
pub mod CauseLemmas
pub mod RowLemmas
pub mod LevelLemmas
