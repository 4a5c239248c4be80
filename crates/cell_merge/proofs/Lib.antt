pub mod IndexLemmas
pub mod KeyLemmas
pub mod LatestLemmas
pub mod Membership
pub mod MergedLemmas
pub mod RisingLemmas
