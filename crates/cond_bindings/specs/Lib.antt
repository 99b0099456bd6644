pub mod Bindings
pub mod Names
pub mod Scopes
pub mod Places
pub mod PlainNames
pub mod NameSteps
pub mod Unseen
