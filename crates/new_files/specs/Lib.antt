pub mod Names
pub mod Putting
pub mod Written
