pub mod ListLaws
pub mod ValueLaws
pub mod JudgementLaws
pub mod CrossingLaws
