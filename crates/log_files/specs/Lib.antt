pub mod Value
pub mod Mutations
pub mod Logs
pub mod Sorted
pub mod Parts
