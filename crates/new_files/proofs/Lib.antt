mod TextLemmas
mod PathLemmas
pub mod DrawLemmas
mod PutActs
pub mod KeptFiles
