pub mod Entries
pub mod Otherwise
