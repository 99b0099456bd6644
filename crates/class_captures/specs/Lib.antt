pub mod Links
pub mod Laws
pub mod Captures
