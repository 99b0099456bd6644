pub mod Spellings
pub mod Parts
pub mod Cores
pub mod CondItems
pub mod CondMeanings
pub mod Slots
