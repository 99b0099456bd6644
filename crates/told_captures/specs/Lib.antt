pub mod Captures
pub mod Laws
