pub mod Names
pub mod Words
pub mod Tables
pub mod Numbers
pub mod Nodes
pub mod NewStore
