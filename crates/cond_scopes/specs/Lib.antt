pub mod Progress
pub mod Roles
pub mod Units
