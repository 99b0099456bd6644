pub mod Occurrences
pub mod Links
pub mod Classes
pub mod Laws
pub mod Rows
