pub mod Book
pub mod Works
pub mod Turn
pub mod Agree
pub mod Passing
