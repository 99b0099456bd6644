pub mod PartsProgress
pub mod Texts
pub mod Roles
pub mod Readings
pub mod Progress
