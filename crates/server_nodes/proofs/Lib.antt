pub mod DigitLemmas
pub mod PutLemmas
pub mod StartLemmas
mod StartActs
mod ClearLemmas
mod Cleared
pub mod KeptStart
mod KeptImages
pub mod KeptGone
