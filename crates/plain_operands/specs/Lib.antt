pub mod PlainOperands
pub mod Values
pub mod Operators
