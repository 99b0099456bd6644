pub mod Scopes
pub mod Walks
pub mod Laws
