pub mod MeaningLemmas
pub mod ClashLemmas
pub mod TableLemmas
pub mod FeatureLemmas
