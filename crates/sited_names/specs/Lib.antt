pub mod Unsited
pub mod Laws
