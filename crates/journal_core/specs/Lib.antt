pub mod Records
pub mod Changes
pub mod Parts
pub mod Value
pub mod Journal
