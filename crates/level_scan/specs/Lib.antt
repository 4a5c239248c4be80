pub mod Tablets
pub mod Reads
pub mod Causes
pub mod Levels
