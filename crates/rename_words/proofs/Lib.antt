pub mod Places
mod Apart
mod Numbers
mod ProjectNames
pub mod Alike
