pub mod PlainLinked
pub mod Numbering
pub mod PlainTexts
pub mod LinkedLaws
