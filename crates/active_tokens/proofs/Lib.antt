pub mod Everywhere
pub mod Replacing
pub mod Reading
pub mod Sources
