pub mod Trees
pub mod Entities
pub mod Laws
pub mod Rows
