pub mod Pushed
pub mod Law
pub mod ParameterTypes
pub mod OneParameter
pub mod Steps
pub mod Seeing
