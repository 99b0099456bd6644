pub mod ItemLemmas
pub mod SpellingLemmas
pub mod MeaningLemmas
pub mod LevelLemmas
pub mod SlotLemmas
