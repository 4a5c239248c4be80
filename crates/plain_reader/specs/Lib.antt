pub mod Consistent
pub mod Parts
pub mod Puts
pub mod Tables
