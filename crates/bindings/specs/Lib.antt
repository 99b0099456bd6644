pub mod Visible
pub mod Bindings
pub mod Judged
pub mod Laws
pub mod Rows
