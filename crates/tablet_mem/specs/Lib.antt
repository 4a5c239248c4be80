pub mod Memory
pub mod Times
pub mod Index
pub mod Room
pub mod Value
