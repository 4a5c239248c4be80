-- The servers of a cluster, and where a tablet is.
pub mod Places
pub mod Servers
pub mod Value
