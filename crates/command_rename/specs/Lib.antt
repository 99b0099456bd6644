pub mod Rename
pub mod Products
pub mod Laws
pub mod Steps
