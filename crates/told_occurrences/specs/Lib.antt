pub mod Told
pub mod Leaves
pub mod Units
pub mod Laws
