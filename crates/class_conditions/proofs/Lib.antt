pub mod Sites
pub mod Passing
pub mod Products
pub mod Left
