pub mod Least
pub mod Decided
pub mod Concluding
pub mod Reading
