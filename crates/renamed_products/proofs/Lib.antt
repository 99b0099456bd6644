mod Alike
mod Over
pub mod ReadTokens
mod Places
mod Products
