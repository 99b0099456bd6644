pub mod Touches
pub mod Units
pub mod Laws
