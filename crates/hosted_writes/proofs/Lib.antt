pub mod MapLemmas
pub mod StopLemmas
pub mod FollowLemmas
mod TestLemmas
