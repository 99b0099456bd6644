pub mod ScopeLemmas
pub mod PartLemmas
