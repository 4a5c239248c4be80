pub mod Fields
pub mod PrefixFree
