pub mod ActLemmas
pub mod LogLemmas
pub mod RootLemmas
pub mod KeptRoot
pub mod UpdateLemmas
