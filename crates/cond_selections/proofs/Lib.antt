pub mod Noting
pub mod Choosing
pub mod Parts
pub mod Behind
pub mod Identifiers
