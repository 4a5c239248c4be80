pub mod JournalLemmas
pub mod Laid
pub mod ReadingLemmas
pub mod RecordsLemmas
