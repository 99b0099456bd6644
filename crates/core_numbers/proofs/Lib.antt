pub mod Twice
pub mod Expressions
pub mod Declarations
pub mod Units
