pub mod Steps
pub mod PlainSteps
pub mod Continuing
pub mod Constants
