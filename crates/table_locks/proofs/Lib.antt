pub mod GrantsLemmas
pub mod TextLemmas
pub mod QueueLemmas
