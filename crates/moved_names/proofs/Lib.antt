pub mod Names
pub mod Occurrences
mod Alike
