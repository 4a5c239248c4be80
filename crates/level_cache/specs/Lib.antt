pub mod Cached
pub mod Shown
pub mod Tables
pub mod Causes
pub mod Down
pub mod Marks
