pub mod Products
pub mod Renamed
pub mod Preconditions
pub mod Laws
