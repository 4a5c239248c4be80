pub mod Chain
pub mod Broken
pub mod Extents
pub mod LeftOver
pub mod Changes
pub mod Splits
pub mod Index
