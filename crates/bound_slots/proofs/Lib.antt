pub mod Constants
pub mod Shapes
pub mod Sizes
mod Units
