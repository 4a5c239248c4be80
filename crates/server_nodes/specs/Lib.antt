pub mod Sessions
pub mod Starting
pub mod Started
pub mod Ending
pub mod Grounds
