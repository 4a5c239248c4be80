pub mod Hosted
pub mod Rows
