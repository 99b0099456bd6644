pub mod Spaces
pub mod Laws
pub mod Rows
