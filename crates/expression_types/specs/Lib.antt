pub mod Known
pub mod Reading
pub mod Laws
pub mod Rows
