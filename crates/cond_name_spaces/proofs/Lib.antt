pub mod VariantsMade
pub mod Noting
pub mod Choosing
pub mod Parts
