pub mod Words
pub mod Quick
pub mod Behaviour
pub mod Steps
