pub mod Named
pub mod Reading
pub mod Decided
pub mod NameLists
pub mod Least
