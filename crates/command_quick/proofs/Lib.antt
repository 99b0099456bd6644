pub mod NewNames
pub mod Decided
pub mod Behaviour
pub mod Reading
