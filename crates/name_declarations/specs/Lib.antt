pub mod Conflicts
pub mod Names
