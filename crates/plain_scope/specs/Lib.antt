pub mod PlainScope
pub mod PlainTypes
pub mod Parts
pub mod Judgements
pub mod Bindings
pub mod JudgementLaws
pub mod Blocks
