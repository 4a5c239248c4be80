pub mod Still
pub mod Columns
pub mod LevelRows
pub mod RowReads
pub mod Roots
pub mod Lacks
pub mod Reads
