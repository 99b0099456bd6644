pub mod ItemLemmas
pub mod TableLemmas
pub mod MeaningLemmas
pub mod RunLemmas
