pub mod Classes
pub mod Laws
