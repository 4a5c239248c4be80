pub mod Drawn
pub mod Example
pub mod Nodes
pub mod Puts
pub mod Rows
pub mod Servers
pub mod UpperRows
