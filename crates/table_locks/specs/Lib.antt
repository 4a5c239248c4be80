pub mod Grants
pub mod Entries
