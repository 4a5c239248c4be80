pub mod Words
pub mod Marks
pub mod Tables
pub mod Staged
pub mod Draws
pub mod Changes
pub mod Names
