pub mod RunLemmas
pub mod ConditionLemmas
pub mod GroupLemmas
