pub mod Types
pub mod Elements
pub mod DeclaredBases
pub mod Laws
