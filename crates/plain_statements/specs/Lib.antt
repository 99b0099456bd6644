pub mod Steps
pub mod PlainJudged
pub mod Kinds
pub mod Answers
pub mod Within
pub mod Items
