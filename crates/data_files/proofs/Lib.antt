pub mod AgainLemmas
pub mod BlockLemmas
pub mod CellLemmas
pub mod FileLemmas
pub mod OrderLemmas
pub mod SizeLemmas
pub mod WriteLemmas
