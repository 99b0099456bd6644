pub mod Walk
pub mod Nests
pub mod Laws
