pub mod Blocks
pub mod Cells
pub mod Files
pub mod Parts
