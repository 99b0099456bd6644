pub mod Around
pub mod LeftOut
pub mod Leaving
pub mod Steps
