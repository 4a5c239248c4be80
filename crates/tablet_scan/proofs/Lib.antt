pub mod BehindLemmas
pub mod FilesLemmas
pub mod ScanLemmas
pub mod LoadLemmas
pub mod PutLemmas
