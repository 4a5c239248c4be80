pub mod Files
pub mod Scans
pub mod Times
