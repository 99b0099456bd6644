pub mod Listed
pub mod Places
pub mod Search
pub mod Laws
