pub mod Concluding
pub mod Laws
