pub mod Renumbered
pub mod Both
pub mod Operations
pub mod Operators
pub mod Kept
