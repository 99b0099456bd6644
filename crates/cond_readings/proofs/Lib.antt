pub mod OptionLemmas
pub mod SeenLemmas
pub mod TestLemmas
pub mod DirectiveLemmas
