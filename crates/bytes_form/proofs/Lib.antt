pub mod CountedLemmas
pub mod FieldsLemmas
