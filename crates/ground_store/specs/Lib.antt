pub mod Value
pub mod Acts
pub mod Steps
pub mod Causes
pub mod Codes
pub mod Opening
pub mod Drawing
