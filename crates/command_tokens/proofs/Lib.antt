pub mod Units
pub mod Decided
