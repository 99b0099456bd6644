pub mod JudgingLaws
pub mod TextLaws
pub mod NumberLaws
pub mod WholeLaws
