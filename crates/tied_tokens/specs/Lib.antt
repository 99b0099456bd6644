pub mod Tokens
pub mod Ties
pub mod Reached
pub mod Search
