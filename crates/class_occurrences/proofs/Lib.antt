pub mod Passing
pub mod Preconditions
