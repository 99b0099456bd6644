pub mod Exclusions
pub mod Apart
