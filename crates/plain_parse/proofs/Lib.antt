pub mod KeptLemmas
pub mod MachineLemmas
pub mod FrameLemmas
pub mod ReadLemmas
pub mod StepLemmas
pub mod Carried
pub mod AnswerLemmas
pub mod Exact
