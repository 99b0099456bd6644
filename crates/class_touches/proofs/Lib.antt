pub mod Present
pub mod Reading
pub mod Listed
