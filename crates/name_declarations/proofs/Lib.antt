pub mod Matching
pub mod Conflicting
pub mod Scopes
