pub mod NameLemmas
pub mod WordLemmas
pub mod TableLemmas
pub mod FirstLemmas
pub mod RootLemmas
pub mod SizeLemmas
pub mod RoomLemmas
pub mod FitLemmas
