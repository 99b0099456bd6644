pub mod WalkLemmas
pub mod FileLemmas
pub mod LawLemmas
pub mod FeatureLemmas
pub mod UnitLemmas
pub mod ConditionLemmas
pub mod TestLemmas
