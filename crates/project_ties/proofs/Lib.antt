pub mod Pushed
pub mod Products
