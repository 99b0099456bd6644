pub mod Selections
pub mod Laws
pub mod Rows
