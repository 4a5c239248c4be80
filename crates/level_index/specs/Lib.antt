pub mod Entries
pub mod Value
pub mod RowReads
pub mod Writes
pub mod Lists
pub mod Ranges
