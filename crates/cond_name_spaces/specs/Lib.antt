pub mod Spaced
pub mod Progress
