pub mod Kept
mod Units
pub mod FileNames
