pub mod SameTypes
pub mod TypeFacts
pub mod NameLemmas
