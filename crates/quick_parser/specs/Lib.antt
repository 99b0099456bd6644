pub mod Spots
pub mod Steps
pub mod Completion
pub mod Laws
