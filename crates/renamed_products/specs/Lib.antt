pub mod Products
pub mod Laws
