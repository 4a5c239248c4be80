pub mod Paths
pub mod Records
pub mod Logs
pub mod Read
pub mod Catalogs
pub mod Pairs
pub mod States
pub mod Causes
