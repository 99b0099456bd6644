pub mod RunWords
pub mod Refusals
pub mod Decided
