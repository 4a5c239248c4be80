pub mod SpotLemmas
pub mod IndexLemmas
pub mod RangeLemmas
pub mod CountLemmas
pub mod MemoryLemmas
pub mod LawsLemmas
