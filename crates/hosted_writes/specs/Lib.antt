pub mod Puts
pub mod Causes
pub mod Memories
pub mod Rows
