pub mod Forms
pub mod Keys
pub mod Marks
pub mod MetadataRow
pub mod RowOrder
