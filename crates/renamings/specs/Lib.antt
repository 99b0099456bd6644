pub mod Renamings
pub mod Laws
