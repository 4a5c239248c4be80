pub mod RowLemmas
pub mod OtherLemmas
