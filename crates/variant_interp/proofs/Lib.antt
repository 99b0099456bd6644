pub mod AdvanceLemmas
pub mod RunLemmas
