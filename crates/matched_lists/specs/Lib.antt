pub mod Matched
pub mod Rows
