pub mod Silent
pub mod FileFaults
