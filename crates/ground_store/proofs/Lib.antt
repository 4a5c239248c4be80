mod StepLemmas
mod ActLemmas
mod MultiLemmas
mod LogLemmas
mod RemoveLemmas
mod OpeningLemmas
mod DiskLemmas
mod MakingLemmas
mod DrawLemmas
pub mod EventLemmas
