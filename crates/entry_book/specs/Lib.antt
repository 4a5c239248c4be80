pub mod Book
pub mod Codes
