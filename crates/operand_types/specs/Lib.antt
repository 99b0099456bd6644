pub mod OperandTypes
pub mod Operators
pub mod Laws
