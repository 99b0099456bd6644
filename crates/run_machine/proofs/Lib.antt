pub mod MachineLemmas
pub mod ContinuedLaws
pub mod FrameLemmas
pub mod PositionLemmas
pub mod ObjectLemmas
pub mod ListLemmas
