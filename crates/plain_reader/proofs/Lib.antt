pub mod PutLemmas
pub mod ConsistentLemmas
pub mod PartLemmas
pub mod TableLemmas
