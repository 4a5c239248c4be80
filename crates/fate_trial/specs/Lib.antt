pub mod Decoding
pub mod Layout
pub mod Site
pub mod Stored
pub mod SlotLemmas
pub mod Towers
pub mod Stops
pub mod TowerLaws
