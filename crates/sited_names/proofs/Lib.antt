pub mod Names
pub mod Ties
