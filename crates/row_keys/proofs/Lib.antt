pub mod MarksLemmas
pub mod MetadataRowsLemmas
pub mod PrevLemmas
pub mod RangesLemmas
pub mod RowOrderLemmas
