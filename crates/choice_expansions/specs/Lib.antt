pub mod Expansions
pub mod Steps
