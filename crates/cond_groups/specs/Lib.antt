pub mod Truths
pub mod Groups
pub mod GroupLaws
