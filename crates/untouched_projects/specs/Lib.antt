pub mod Untouched
pub mod Laws
