pub mod Commands
pub mod Laws
