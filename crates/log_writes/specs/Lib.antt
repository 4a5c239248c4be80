pub mod Answers
pub mod Logging
pub mod Setting
pub mod Updating
