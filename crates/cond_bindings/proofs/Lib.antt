pub mod BelowLemmas
pub mod PlaceLemmas
pub mod NameLemmas
pub mod StepLemmas
pub mod LocalLemmas
pub mod WalkLemmas
