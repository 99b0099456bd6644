pub mod Tokens
pub mod UnitTree
pub mod Laws
