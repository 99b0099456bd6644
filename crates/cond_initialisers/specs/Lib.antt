pub mod Forms
pub mod Constants
pub mod ConstantLaws
pub mod Shapes
pub mod Refusals
pub mod Rows
pub mod Places
pub mod Laws
